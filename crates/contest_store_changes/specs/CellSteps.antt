-- What is written of the cells that a change bears on, one row under either mask.
use Rattle.std.specs.Prelude.{◌≡◌, ℕ, Bool, true, false, List, ◌∷◌, map, Result}
use Rattle.sqlite.specs.State.{State}
use Rattle.sqlite_keyed.specs.Lists.{sort_by}
use Rattle.sqlite_value.specs.Order.{Row}
use Rattle.contest_lists.specs.Lists.{loaded}
use Rattle.contest_types.specs.Addable.{is_addable}
use Rattle.contest_types.specs.State.{ContestState, add}
use Rattle.contest_types.specs.Valid.{is_valid}
use Rattle.contest_types.specs.declared.entry.Entry.{Entry}
use Rattle.contest_types.specs.declared.sight.Mask.TheVariants.{Full, Held}
use Rattle.contest_score.specs.Contest.{contest_cell}
use Rattle.contest_store.specs.declared.store_error.StoreError.{StoreError}
use Rattle.contest_store_tables.specs.Changes.{AreChanged, HasChanged, change_row}
use Rattle.contest_store_tables.specs.Steps.{Content, HasInserted, Holding, IsWith, MakesNone, Showing, Step, Within, with_rows}
use Rattle.contest_store_tables.specs.Tables.{TableRows}
use Rattle.contest_store_tables.specs.declared.counts.Counts.{Counts}
use Rattle.contest_store_tables.specs.declared.row_change.RowChange.TheVariants.{Cell}
use Rattle.contest_store_tables.specs.declared.table_name.TableName.TheVariants.{Cells}
use Rattle.contest_store_cells.specs.CellRows.{by_place, cell_row, cell_rows}
use Rattle.contest_store_changes.specs.ContestTables.{rows_with, table_rows}
use Rattle.contest_store_changes.specs.Sound.{IsSound}

-- the rows of the cells with one more, or with one that has the key of the given row changed
abbrev pub written : (is_new : Bool) → Row → List Row → List Row
written true row rows = sort_by by_place (row ∷ rows)
written false row rows = map (change_row Cell row) rows

-- the row may be written so
abbrev pub IsWritable : (is_new : Bool) → Row → List Row → Type 0
IsWritable true row rows = IsWith Cells row rows (written true row rows)
IsWritable false row rows = AreChanged Cell row rows (written false row rows)

-- it is written, if it may be
abbrev pub HasWritten : (is_new : Bool) → Row → Holding
HasWritten true row = HasInserted Cells row
HasWritten false row = HasChanged Cell row

-- within a transaction two rows may be written, one after the other
pub record MayWrite (is_new : Bool) (held full : Row) (s : State) (now kept : Content) : Type 0 where
  pub rows : TableRows
  pub shown : now ≡ Showing rows
  pub within : Within s now kept
  pub first : IsWritable is_new held (rows Cells)
  pub second : IsWritable is_new full (written is_new held (rows Cells))

-- both are written
abbrev pub HasWrittenBoth : (is_new : Bool) → (held full : Row) → Holding
HasWrittenBoth is_new held full s now kept =
    (rows : TableRows) → now ≡ Showing rows → Within s (Showing (with_rows Cells (written is_new full (written is_new held (rows Cells))) rows)) kept

-- these are the rows of a team's cell at a problem, in each valid contest with these lists
abbrev pub AreItsRows : (lists : ContestState) → (team problem : ℕ) → (held full : Row) → Type 0
AreItsRows lists team problem held full =
    (x : ContestState) → is_valid x ≡ true → lists ≡ loaded x
    → (held ≡ cell_row x.fixed.settings Held team problem (contest_cell Held x team problem)) × (full ≡ cell_row x.fixed.settings Full team problem (contest_cell Full x team problem))

-- the rows of a team's cell at a problem are written
abbrev pub WritesCells : Result (Unit {0}) StoreError → (is_new : Bool) → (lists : ContestState) → (team problem : ℕ) → (old new : State) → (before after : Counts) → Type 0
WritesCells result is_new lists team problem old new before after =
    (held full : Row) × AreItsRows lists team problem held full × Step result old new before after (MayWrite is_new held full) (HasWrittenBoth is_new held full) (MakesNone old (MayWrite is_new held full))

-- within a transaction the tables show the lists of a sound contest with a change that may be made, and its cells as they
-- were before; these are its lists with the change
pub record Scores (lists : ContestState) (e : Entry) (s : State) (now kept : Content) : Type 0 where
  pub contest : ContestState
  pub shown : now ≡ Showing (rows_with (cell_rows contest) (add contest e))
  pub sound : IsSound contest
  pub may : is_addable contest e ≡ true
  pub after : IsSound (add contest e)
  pub held : loaded (add contest e) ≡ lists
  pub within : Within s now kept

-- they show its cells with the change too
pub record HasScored (e : Entry) (s : State) (now kept : Content) : Type 0 where
  pub contest : ContestState
  pub shown : now ≡ Showing (rows_with (cell_rows contest) (add contest e))
  pub after : IsSound (add contest e)
  pub within : Within s (Showing (table_rows (add contest e))) kept
