-- Rows of cells that are compared one by one are one list.
use Rattle.std.proofs.Common.{◌≡◌, ℕ, true, List, [], ◌∷◌, ◌++◌, refl, ap₂}
use Rattle.std.specs.List.{AllByRecursion, list_all}
use Rattle.std.specs.Option.{option_map}
use Rattle.std.proofs.lemmas.Bool.{false≢true}
use Rattle.sqlite_keyed.proofs.ListLemmas.{all-append, all-map}
use Rattle.sqlite_value.specs.Order.{Row}
use Rattle.contest_types.specs.Setup.{Setup}
use Rattle.contest_types.specs.State.{ContestState}
use Rattle.contest_types.specs.declared.minute.Minute.{Minute}
use Rattle.contest_types.specs.declared.sight.Mask.{Mask}
use Rattle.contest_types.specs.declared.sight.Mask.TheVariants.{Full, Held}
use Rattle.contest_types.proofs.PlaceLemmas.{and_left, and_right, both_true}
use Rattle.contest_score.specs.Contest.{contest_cell}
use Rattle.contest_score.specs.declared.cell.Cell.{Cell}
use Rattle.contest_store_rows.specs.Cells.{same_row}
use Rattle.contest_store_rows.proofs.RowLemmas.{is_no_real, row_itself, same_rows as one_row, no_real_number}
use Rattle.contest_store_cells.specs.CellRows.{by_place, cell_row, cell_rows, cells_under, first_attempts}
use Rattle.contest_store_cells.proofs.CellOrder.{row_at}
use Rattle.contest_store_changes.specs.ContestTables.{same_rows}
use Rattle.contest_store_changes.proofs.WideRows.{all_sorted}

pub one_list : (a b : List Row) → same_rows a b ≡ true → a ≡ b
one_list [] [] h = refl
one_list (r ∷ rs) (q ∷ qs) h = ap₂ ◌∷◌ (one_row r q (and_left (same_row r q) _ h)) (one_list rs qs (and_right (same_row r q) _ h))
one_list _ _ h = absurd (false≢true h)

-- a row of a cell has no real number
abbrev HasNoReal : Row → Type 0
HasNoReal r = list_all is_no_real r ≡ true

cell_has_none : (s : Setup) (mask : Mask) (team problem : ℕ) (c : Cell) → HasNoReal (cell_row s mask team problem c)
cell_has_none s mask team problem c = rw (no_real_number (option_map (λ (m : Minute). m.0) c.solved)) refl

all_have_none : (x : ContestState) → AllByRecursion HasNoReal (cell_rows x)
all_have_none x =
    let under : (mask : Mask) → AllByRecursion HasNoReal (cells_under mask x) = λ mask. all-map HasNoReal (row_at x mask) (λ s. cell_has_none x.fixed.settings mask s.team s.problem (contest_cell mask x s.team s.problem)) (first_attempts x.submissions) in
    all_sorted by_place HasNoReal (cells_under Held x ++ cells_under Full x) (all-append HasNoReal (cells_under Held x) (cells_under Full x) (under Held) (under Full))

list_itself : (rows : List Row) → AllByRecursion HasNoReal rows → same_rows rows rows ≡ true
list_itself [] all = refl
list_itself (r ∷ rs) all = both_true _ _ (row_itself r all.0) (list_itself rs all.1)

pub cells_themselves : (x : ContestState) → same_rows (cell_rows x) (cell_rows x) ≡ true
cells_themselves x = list_itself (cell_rows x) (all_have_none x)
