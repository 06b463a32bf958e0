-- Rows of cells: held as they are given, rising by their keys, and one row changed among them.
use Rattle.std.proofs.Common.{◌≡◌, ◌∙◌, ◌+◌, ℕ, Bool, true, false, List, [], ◌∷◌, map, All, refl, sym, subst, Less}
use Rattle.std.specs.Prelude.{◌&&◌, ◌==◌, if◌then◌else◌}
use Rattle.std.specs.List.{AllByRecursion}
use Rattle.std.specs.Option.{option_map}
use Rattle.std.specs.Str.{bytes_eq}
use Rattle.std.proofs.lemmas.List.Elements.{All-nil, All-cons}
use Rattle.sqlite_keyed.specs.Lists.{sort_by}
use Rattle.sqlite_keyed.proofs.ListLemmas.{all-append, all-map, all_map, all_weaker, ascending-map, ascending_weaker}
use Rattle.sqlite_sql.proofs.QueryLemmas.{key_cmp_total}
use Rattle.sqlite_value.specs.Keys.{rising}
use Rattle.sqlite_value.specs.Order.{Row}
use Rattle.contest_types.specs.ProblemPlaces.{problem_id_at}
use Rattle.contest_types.specs.Setup.{Setup}
use Rattle.contest_types.specs.State.{ContestState}
use Rattle.contest_types.specs.declared.minute.Minute.{Minute}
use Rattle.contest_types.specs.declared.sight.Mask.{Mask}
use Rattle.contest_types.specs.declared.sight.Mask.TheVariants.{Full, Held}
use Rattle.contest_score.specs.declared.cell.Cell.{Cell}
use Rattle.contest_store_tables.specs.Changes.{IsHeld, change_row, changed_row, is_changed}
use Rattle.contest_store_tables.specs.Schema.{form_of}
use Rattle.contest_store_tables.specs.Steps.{IsHeldAsGiven, Rises}
use Rattle.contest_store_tables.specs.declared.row_change.RowChange.TheVariants as change
use Rattle.contest_store_tables.specs.declared.table_name.TableName.TheVariants.{Cells}
use Rattle.contest_store_tables.proofs.StrictSort.{rises_sorted}
use Rattle.contest_store_cells.specs.CellRows.{by_place, cell_row, cell_rows, cells_under, first_attempts, mask_number}
use Rattle.contest_store_cells.proofs.CellChanges.{NoTwoTie, all_cells}
use Rattle.contest_store_cells.proofs.CellOrder.{IsPlaced, cells_apart, row_at}
use Rattle.contest_store_changes.proofs.CastLemmas.{fits_number}
use Rattle.contest_store_changes.proofs.HeldRows.{Fits, given, held}
use Rattle.contest_store_changes.proofs.SameNumbers.{same_number, same_text}
use Rattle.contest_store_changes.proofs.WideRows.{all_sorted}

-- a row of a cell is held as it is given, and where it stands
cell_fits : (s : Setup) (mask : Mask) (team problem : ℕ) (c : Cell) → Fits (form_of Cells) (cell_row s mask team problem c)
cell_fits s mask team problem c = rw (fits_number (option_map (λ (m : Minute). m.0) c.solved)) refl

pub cell_given : (s : Setup) (mask : Mask) (team problem : ℕ) (c : Cell) → IsHeldAsGiven (form_of Cells) (cell_row s mask team problem c)
cell_given s mask team problem c = given (form_of Cells) (cell_row s mask team problem c) (cell_fits s mask team problem c) (λ rows. refl)

pub cell_held : (s : Setup) (mask : Mask) (team problem : ℕ) (c : Cell) → IsHeld (form_of Cells) (cell_row s mask team problem c)
cell_held s mask team problem c = held (form_of Cells) (cell_row s mask team problem c) (cell_fits s mask team problem c) refl

-- rows of which no two tie rise where they are sorted
pub sorted_rise : (rows : List Row) → NoTwoTie rows → Rises Cells (sort_by by_place rows)
sorted_rise rows apart = rises_sorted by_place (key_cmp_total (rising 3 []) 0) rows apart

pub cells_rise : (x : ContestState) → IsPlaced x → Rises Cells (cell_rows x)
cells_rise x placed = sorted_rise (all_cells x) (cells_apart x placed)

-- a changed row has the key that it had
same_key : (given a b : Row) → by_place (change_row change.Cell given a) (change_row change.Cell given b) ≡ by_place a b
same_key given a b = go (is_changed change.Cell given a) (is_changed change.Cell given b)
  where
    go : (p q : Bool) → by_place (if p then changed_row change.Cell given a else a) (if q then changed_row change.Cell given b else b) ≡ by_place a b
    go true true = refl
    go true false = refl
    go false true = refl
    go false false = refl

pub keys_kept : (held full a b : Row) → by_place (change_row change.Cell full (change_row change.Cell held a)) (change_row change.Cell full (change_row change.Cell held b)) ≡ by_place a b
keys_kept held full a b = same_key full (change_row change.Cell held a) (change_row change.Cell held b) ∙ same_key held a b

pub still_rise : (given : Row) (rows : List Row) → Rises Cells rows → Rises Cells (map (change_row change.Cell given) rows)
still_rise given rows up =
    ascending-map (λ (a b : Row). by_place a b ≡ Less) (change_row change.Cell given) rows
    (ascending_weaker (λ (a b : Row). by_place a b ≡ Less) (λ (a b : Row). by_place (change_row change.Cell given a) (change_row change.Cell given b) ≡ Less) (λ a b h. same_key given a b ∙ h) rows up)

-- the row is that of some cell
pub record IsOfCell (r : Row) : Type 0 where
  pub setup : Setup
  pub mask : Mask
  pub team : ℕ
  pub problem : ℕ
  pub cell : Cell
  pub is : r ≡ cell_row setup mask team problem cell

pub of_cell : (s : Setup) (mask : Mask) (team problem : ℕ) (c : Cell) → IsOfCell (cell_row s mask team problem c)
of_cell s mask team problem c = record { setup = s; mask = mask; team = team; problem = problem; cell = c; is = refl }

pub all_of_cells : (x : ContestState) → AllByRecursion IsOfCell (cell_rows x)
all_of_cells x =
    let under : (mask : Mask) → AllByRecursion IsOfCell (cells_under mask x) = λ mask. all-map IsOfCell (row_at x mask) (λ s. of_cell x.fixed.settings mask s.team s.problem _) (first_attempts x.submissions) in
    all_sorted by_place IsOfCell (all_cells x) (all-append IsOfCell (cells_under Held x) (cells_under Full x) (under Held) (under Full))

changed_of_cell : (s : Setup) (mask : Mask) (team problem : ℕ) (c : Cell) (r : Row) → IsOfCell r → IsOfCell (change_row change.Cell (cell_row s mask team problem c) r)
changed_of_cell s mask team problem c r o =
    subst (λ (q : Row). IsOfCell (change_row change.Cell (cell_row s mask team problem c) q)) (sym o.is) (go (is_changed change.Cell (cell_row s mask team problem c) (cell_row o.setup o.mask o.team o.problem o.cell)))
  where
    own : Row
    own = cell_row o.setup o.mask o.team o.problem o.cell

    go : (b : Bool) → IsOfCell (if b then changed_row change.Cell (cell_row s mask team problem c) own else own)
    go true = of_cell o.setup o.mask o.team o.problem c
    go false = of_cell o.setup o.mask o.team o.problem o.cell

pub changed_of_cells : (s : Setup) (mask : Mask) (team problem : ℕ) (c : Cell) (rows : List Row) → AllByRecursion IsOfCell rows → AllByRecursion IsOfCell (map (change_row change.Cell (cell_row s mask team problem c)) rows)
changed_of_cells s mask team problem c rows all =
    all_map IsOfCell (change_row change.Cell (cell_row s mask team problem c)) rows
    (all_weaker IsOfCell (λ r. IsOfCell (change_row change.Cell (cell_row s mask team problem c) r)) (changed_of_cell s mask team problem c) rows all)

pub cells_held : (rows : List Row) → AllByRecursion IsOfCell rows → All (IsHeld (form_of Cells)) rows
cells_held [] all = All-nil (IsHeld (form_of Cells))
cells_held (r ∷ rows) all =
    All-cons (IsHeld (form_of Cells)) r rows (subst (IsHeld (form_of Cells)) (sym all.0.is) (cell_held all.0.setup all.0.mask all.0.team all.0.problem all.0.cell)) (cells_held rows all.1)

-- which rows are changed: those of the mask, the team and the problem
pub by_parts : (s : Setup) (m n : Mask) (team problem t p : ℕ) (c d : Cell) → is_changed change.Cell (cell_row s m team problem c) (cell_row s n t p d)
    ≡ ((mask_number n == mask_number m) && ((t + 1 == team + 1) && (bytes_eq (problem_id_at s.problems p) (problem_id_at s.problems problem) && true)))
by_parts s m n team problem t p c d = rw (same_number (mask_number n) (mask_number m), same_number (t + 1) (team + 1), same_text (problem_id_at s.problems p) (problem_id_at s.problems problem)) refl
