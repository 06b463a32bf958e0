-- What the calls on the tables start from.
use Rattle.std.specs.Prelude.{◌≡◌, true}
use Rattle.sqlite.specs.State.{State}
use Rattle.contest_lists.specs.Lists.{loaded}
use Rattle.contest_types.specs.Addable.{is_addable}
use Rattle.contest_types.specs.State.{ContestState}
use Rattle.contest_types.specs.declared.entry.Entry.{Entry}
use Rattle.contest_store_tables.specs.Steps.{Content, Holding, Holds, Lacking, Showing, Within}
use Rattle.contest_store_tables.specs.Tables.{TableRows}
use Rattle.contest_store_tables.specs.declared.later_table.LaterTable.{LaterTable}
use Rattle.contest_store_changes.specs.ContestTables.{table_rows}
use Rattle.contest_store_changes.specs.Sound.{IsSound}

-- the tables of a desk stand
abbrev pub HoldsDesk : Holding
HoldsDesk s now kept = Holds s now kept × ((rows : TableRows) × (now ≡ Showing rows))

-- those stand that are made before this one
abbrev pub HoldsLacking : LaterTable → Holding
HoldsLacking table s now kept = Holds s now kept × ((rows : TableRows) × (now ≡ Lacking table rows))

-- all stand in a transaction, with the same rows
abbrev pub HasAll : LaterTable → Holding
HasAll table s now kept = (rows : TableRows) → now ≡ Lacking table rows → Within s (Showing rows) kept

-- they show a sound contest that has these lists, and to which the change may be made
pub record MayAdd (lists : ContestState) (e : Entry) (s : State) (now kept : Content) : Type 0 where
  pub contest : ContestState
  pub shown : now ≡ Showing (table_rows contest)
  pub sound : IsSound contest
  pub held : loaded contest ≡ lists
  pub may : is_addable contest e ≡ true
  pub holds : Holds s now kept
