-- What is found where a store is opened.
use Rattle.std.specs.Prelude.{◌≡◌, ◌⊎◌, IsTrue, Option, Some, [], false, true}
use Rattle.sqlite.specs.State.{HasCleanDisk, State}
use Rattle.contest_types.specs.State.{ContestState}
use Rattle.contest_types.specs.Valid.{is_valid}
use Rattle.contest_store.specs.Keeping.{Kept, LeavesNoMore, Shows}
use Rattle.contest_store.specs.declared.store_error.StoreError.{StoreError}
use Rattle.contest_lists.specs.Lists.{loaded}
use Rattle.contest_store_tables.specs.Connected.{IsCelless, IsLacking, IsOfDesk}
use Rattle.contest_store_tables.specs.Counts.{counted}
use Rattle.contest_store_tables.specs.Schema.{desk_schema}
use Rattle.contest_store_tables.specs.Tables.{rows_in, with_cells_back}
use Rattle.contest_store_tables.specs.declared.counts.Counts.{Counts}
use Rattle.contest_store_tables.specs.declared.later_table.LaterTable.{LaterTable}
use Rattle.contest_store_tables.specs.declared.table_name.TableName.TheVariants.{Cells, Desk}
use Rattle.contest_store_reading.specs.FixedParts.{is_desk}
use Rattle.contest_store_rows.specs.declared.versions.Version.TheVariants.{First}
use Rattle.contest_store_sqlite.specs.Contests.{HoldsContests, contest_in_trees, listed_in_trees, may_leave_of}
use Rattle.contest_store_sqlite.specs.Value.{StoreValue}
use Rattle.contest_store_sqlite.specs.declared.open_error.OpenError.{OpenError}
use Rattle.contest_store_sqlite.specs.declared.open_error.OpenError.TheVariants as open_error

-- the tables of a desk of the first schema stand, and no others, and their version says so
pub record IsOfFirst (s : State) : Type 0 where
  pub table : LaterTable
  pub lacks : IsLacking table s
  pub version : is_desk First (rows_in s.now.trees Desk) ≡ true

-- such tables were found: they stand if the database is open, as far as the disk can be believed
abbrev pub FindsFirst : (old new : State) → Type 0
FindsFirst old new = HasCleanDisk new → IsTrue old.is_open → IsOfFirst old

-- the first schema is told as that, or a failure is, which is counted
abbrev pub TellsFirst : OpenError → (before after : Counts) → Type 0
TellsFirst error before after = (error ≡ open_error.OldSchema) ⊎ ((e : StoreError) × (error ≡ open_error.Store e) × (after ≡ counted e before))

-- the tables of a desk show the lists of this valid contest, and their cells have no row, or are its own; or the table of the
-- cells was taken out
abbrev pub FindsContest : State → ContestState → Type 0
FindsContest s x =
    (IsOfDesk s × (listed_in_trees s.now.trees ≡ Some x) × ((rows_in s.now.trees Cells ≡ []) ⊎ (contest_in_trees s.now.trees ≡ Some x)))
    ⊎ ((place : LaterTable) × IsCelless place s × (listed_in_trees (with_cells_back place s.now.trees) ≡ Some x))

-- what a crash while it is opened may leave: what it could leave before, or the contest whose lists stood, with its cells
abbrev pub may_leave_filled : State → Option ContestState → Type 0
may_leave_filled s c = may_leave_of s c ⊎ ((x : ContestState) × FindsContest s x × (c ≡ Some x))

-- the lists are those of the valid contest whose lists the tables of a desk showed; they show it now with its cells, as it
-- is committed
pub record IsRead (old new : State) (lists : ContestState) : Type 0 where
  pub contest : ContestState
  pub found : FindsContest old contest
  pub held : lists ≡ loaded contest
  pub holds : HoldsContests new contest contest

-- the tables of a desk stand, and no others, and so they did at the last commit
pub record HasDesk (s : State) : Type 0 where
  pub now : IsOfDesk s
  pub committed : s.committed.schema ≡ desk_schema

-- a store shows the valid contest whose lists the tables of the connection showed, which were those of a desk: cells that
-- aren't its own are never mended. A crash
-- leaves no more than it could before, or that contest with its cells
pub record Opened (s : State) (kept : Kept) : Type 0 where
  pub contest : ContestState
  pub found : FindsContest s contest
  pub shows : Shows kept contest contest
  pub crash : LeavesNoMore (may_leave_filled s) kept.may_leave

-- a store shows a valid contest, as it was committed
pub record ShowsValid (kept : Kept) : Type 0 where
  pub contest : ContestState
  pub shows : Shows kept contest contest
  pub valid : is_valid contest ≡ true

-- no call failed yet, no commit was answered, the lists are in memory, and no change was made
abbrev pub IsNew : {S : Type 0} → StoreValue S → Type 0
IsNew v = (v.faults ≡ 0) × (v.refusals ≡ 0) × (v.commits ≡ 0) × (v.is_loaded ≡ true) × (v.is_changed ≡ false)
