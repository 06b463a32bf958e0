-- What is done to the tables of a desk whose table of the cells was taken out, where they are opened.
use Rattle.std.specs.Prelude.{◌≡◌, true, [], Result, OnOk}
use Rattle.sqlite.specs.State.{HasCleanDisk, State}
use Rattle.sqlite.specs.Tree.{Trees}
use Rattle.contest_lists.specs.Lists.{loaded}
use Rattle.contest_types.specs.State.{ContestState}
use Rattle.contest_types.specs.Valid.{is_valid}
use Rattle.contest_store.specs.declared.store_error.StoreError.{StoreError}
use Rattle.contest_store_cells.specs.CellRows.{cell_rows}
use Rattle.contest_store_rows.specs.Cells.{numbered}
use Rattle.contest_store_rows.specs.ListRows.{clarification_row}
use Rattle.contest_store_tables.specs.Steps.{Celless, Content, Holding, Holds, Rises, Showing, Within, with_rows}
use Rattle.contest_store_tables.specs.Tables.{TableRows, rows_in}
use Rattle.contest_store_tables.specs.declared.table_name.TableName.TheVariants.{Cells, Notices}
use Rattle.contest_store_changes.specs.Sound.{IsSound}

-- they stand
abbrev pub HoldsCelless : Holding
HoldsCelless s now kept = Holds s now kept × ((rows : TableRows) × (now ≡ Celless rows))

-- all tables of a desk stand in a transaction, that of the notices without a row, and the others with the same rows
abbrev pub HasEmptied : Holding
HasEmptied s now kept = (rows : TableRows) → now ≡ Celless rows → Within s (Showing (with_rows Notices [] rows)) kept

-- so they stand, and a valid contest has these lists, whose clarifications are the rows of the notices that were there
pub record Emptied (lists : ContestState) (s : State) (now kept : Content) : Type 0 where
  pub rows : TableRows
  pub shown : now ≡ Showing (with_rows Notices [] rows)
  pub within : Within s now kept
  pub rises : Rises Cells (rows Cells)
  pub contest : ContestState
  pub valid : is_valid contest ≡ true
  pub sound : IsSound contest
  pub held : loaded contest ≡ lists
  pub spelled : rows Notices ≡ numbered (clarification_row lists.fixed.settings) lists.clarifications

-- the notices are back, and the cells are right and committed
abbrev pub PutsBack : {T : Type 0} → Result T StoreError → (lists : ContestState) → (old new : State) → Type 0
PutsBack result lists old new =
    HasCleanDisk new → (now kept : Content) → (h : Emptied lists old now kept)
    → OnOk result (Holds new (Showing (with_rows Cells (cell_rows h.contest) h.rows)) (Showing (with_rows Cells (cell_rows h.contest) h.rows)))

-- trees have the rows that stood, and the cells of the valid contest with these lists
abbrev pub MakesBack : (lists : ContestState) → State → Trees → Type 0
MakesBack lists old db = (now kept : Content) → (h : Emptied lists old now kept) → rows_in db ≡ with_rows Cells (cell_rows h.contest) h.rows
