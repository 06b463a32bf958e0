-- What one change of a contest does to the rows of its tables.
use Rattle.std.specs.Prelude.{◌≡◌, ◌+◌, ◌<◌, ◌^◌, ℕ, true, Result, length}
use Rattle.sqlite.specs.State.{State}
use Rattle.contest_lists.specs.Lists.{loaded}
use Rattle.contest_store.specs.declared.store_error.StoreError.{StoreError}
use Rattle.contest_types.specs.Addable.{is_addable}
use Rattle.contest_types.specs.State.{ContestState, add}
use Rattle.contest_types.specs.declared.entry.Entry.{Entry}
use Rattle.contest_types.specs.declared.rejudging.Member.{Member}
use Rattle.contest_store_rows.specs.ListRows.{member_row}
use Rattle.contest_store_tables.specs.Steps.{Content, HasInserted, Holding, MakesNone, Showing, Step, Within}
use Rattle.contest_store_tables.specs.declared.counts.Counts.{Counts}
use Rattle.contest_store_tables.specs.declared.table_name.TableName.TheVariants.{Members}
use Rattle.contest_store_cells.specs.CellRows.{cell_rows}
use Rattle.contest_store_changes.specs.ContestTables.{rows_with, table_rows}
use Rattle.contest_store_changes.specs.Sound.{IsSound}

-- within a transaction the tables show a sound contest that has these lists, and to which the change may be made
pub record Admits (lists : ContestState) (e : Entry) (s : State) (now kept : Content) : Type 0 where
  pub contest : ContestState
  pub shown : now ≡ Showing (table_rows contest)
  pub sound : IsSound contest
  pub held : loaded contest ≡ lists
  pub may : is_addable contest e ≡ true
  pub within : Within s now kept

-- they show its lists with the change, and its cells as they were
pub record HasListed (lists : ContestState) (e : Entry) (s : State) (now kept : Content) : Type 0 where
  pub contest : ContestState
  pub shown : now ≡ Showing (table_rows contest)
  pub sound : IsSound contest
  pub held : loaded contest ≡ lists
  pub within : Within s (Showing (rows_with (cell_rows contest) (add contest e))) kept

-- they show it with the change, in its cells too, and it is sound then
pub record HasAdded (lists : ContestState) (e : Entry) (s : State) (now kept : Content) : Type 0 where
  pub contest : ContestState
  pub shown : now ≡ Showing (table_rows contest)
  pub sound : IsSound contest
  pub after : IsSound (add contest e)
  pub held : loaded contest ≡ lists
  pub within : Within s (Showing (table_rows (add contest e))) kept

-- on Ok the change of the lists is made, on Err no change stands that wasn't committed
abbrev pub Appends : Result (Unit {0}) StoreError → (old new : State) → (before after : Counts) → (lists : ContestState) → Entry → Type 0
Appends result old new before after lists e = Step result old new before after (Admits lists e) (HasListed lists e) (MakesNone old (Admits lists e))

-- the row of a member of the rejudging that comes after those of the lists stands, if cells hold the member's numbers
abbrev pub HasMember : (lists : ContestState) → (place : ℕ) → Member → Holding
HasMember lists place m s now kept =
    (m.team + 1 < 2 ^ 63) × (m.number + 1 < 2 ^ 63) → HasInserted Members (member_row lists.fixed.settings (length lists.rejudgings + 1) (place + 1) m) s now kept
