-- Rows compared cell by cell.
use Rattle.std.proofs.Common.{◌≡◌, ◌∙◌, suc, false, List, [], ◌∷◌, length, refl, ap}
use Rattle.std.specs.Prelude.{◌≢◌, ◌&&◌}
use Rattle.std.proofs.Math.Bool.{and-false}
use Rattle.sqlite_value.specs.declared.value.ValueRef.{ValueRef}
use Rattle.sqlite_value.specs.Order.{Row}
use Rattle.sqlite_value.specs.Value.{owned}
use Rattle.contest_store_rows.specs.Cells.{lent, same_cell, same_row}

-- rows of different lengths are different
pub unlike_lengths : (row : Row) (cells : List ValueRef) → length row ≢ length cells → same_row row (lent cells) ≡ false
unlike_lengths [] [] other = absurd (other refl)
unlike_lengths [] (c ∷ cs) other = refl
unlike_lengths (x ∷ xs) [] other = refl
unlike_lengths (x ∷ xs) (c ∷ cs) other = ap (λ b. same_cell x (owned c) && b) (unlike_lengths xs cs (λ e. other (ap suc e))) ∙ and-false (same_cell x (owned c))
