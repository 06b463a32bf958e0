-- Rows compared with those of cells.
use Rattle.std.proofs.Common.{◌≡◌, ◌+◌, ◌<◌, ◌≤◌, ◌∙◌, ℕ, true, List, [], ◌∷◌, ◌++◌, length, map, take, get_or, refl, sym, ap, ap₂, subst}
use Rattle.std.specs.List.{list_all}
use Rattle.std.specs.Option.{option_map}
use Rattle.std.proofs.lemmas.List.{get_or-map, length-map, map_more, take_all, take_more}
use Rattle.sqlite_value.specs.Order.{Row}
use Rattle.contest_types.specs.Setup.{Setup}
use Rattle.contest_types.specs.declared.minute.Minute.{Minute}
use Rattle.contest_store_rows.specs.Cells.{same_row}
use Rattle.contest_store_rows.proofs.RowLemmas.{is_no_real, row_itself, same_rows, no_real_number}
use Rattle.contest_store_cells.specs.PlacedCells.{placed_row}
use Rattle.contest_store_cells.specs.declared.placed.PlacedCell.{PlacedCell}

no_reals : (s : Setup) (c : PlacedCell) → list_all is_no_real (placed_row s c) ≡ true
no_reals s c = rw (no_real_number (option_map (λ (m : Minute). m.0) c.cell.solved)) refl

-- a row with the same cells is the cell's row
pub its_row : (s : Setup) (r : Row) (c : PlacedCell) → same_row r (placed_row s c) ≡ true → r ≡ placed_row s c
its_row s r c same = same_rows r (placed_row s c) same

pub own_row : (s : Setup) (r : Row) (c : PlacedCell) → r ≡ placed_row s c → same_row r (placed_row s c) ≡ true
own_row s r c is = subst (λ t. same_row t (placed_row s c) ≡ true) (sym is) (row_itself (placed_row s c) (no_reals s c))

module _ {X Y : Type 0} (f : X → Y) (ys : List Y) (xs : List X) where
  -- one more row of its own
  pub rows_more : (i : ℕ) (y : Y) (d : X) → i < length ys → i < length xs → y ≡ get_or ys i y → y ≡ f (get_or xs i d) → take i ys ≡ map f (take i xs) → take (i + 1) ys ≡ map f (take (i + 1) xs)
  rows_more i y d l m is own so_far = take_more ys i y l ∙ (ap₂ (λ vs v. vs ++ v ∷ []) so_far (sym is ∙ own) ∙ sym (map_more f xs i d m))

  -- the row at a place is that of the element there
  pub row_at : (i : ℕ) (y : Y) (d : X) → i < length xs → y ≡ get_or ys i y → ys ≡ map f xs → y ≡ f (get_or xs i d)
  row_at i y d m is all = is ∙ (ap (λ vs. get_or vs i y) all ∙ get_or-map f xs i d y m)

  -- all rows
  pub rows_all : (i : ℕ) → length ys ≤ i → length xs ≤ i → take i ys ≡ map f (take i xs) → ys ≡ map f xs
  rows_all i l m so_far = sym (take_all i ys l) ∙ (so_far ∙ ap (map f) (take_all i xs m))

  pub as_many : ys ≡ map f xs → length ys ≡ length xs
  as_many all = ap length all ∙ length-map xs f
