-- The contests that the tables of a connection show.
use Rattle.std.specs.Prelude.{◌≡◌, [], false, None, Option, unwrap_or}
use Rattle.sqlite.specs.State.{State}
use Rattle.sqlite.specs.Tree.{Trees}
use Rattle.contest_types.specs.State.{ContestState, new_contest}
use Rattle.contest_store_tables.specs.Steps.{Holds, Showing, with_rows}
use Rattle.contest_store_tables.specs.Tables.{rows_in}
use Rattle.contest_store_changes.specs.ContestTables.{table_rows, valid_contest_in, valid_listed_in}
use Rattle.contest_store_changes.specs.Sound.{IsSound}
use Rattle.contest_store_changes.specs.Upgraded.{first_listed_in}
use Rattle.contest_store_tables.specs.declared.table_name.TableName.TheVariants.{Notices}

-- the valid contest that trees show, if they show one
abbrev pub contest_in_trees : Trees → Option ContestState
contest_in_trees db = valid_contest_in (rows_in db)

-- the valid contest whose lists trees show, whatever their cells, if they show one
abbrev pub listed_in_trees : Trees → Option ContestState
listed_in_trees db = valid_listed_in (rows_in db)

-- the valid contest whose lists trees show in the first schema, which has no table of notices
abbrev pub first_listed_in_trees : Trees → Option ContestState
first_listed_in_trees db = first_listed_in (with_rows Notices [] (rows_in db))

-- what stands for the contest where trees show none, as those of a store that is shut
abbrev pub no_contest : ContestState
no_contest = new_contest (record {
  head = record { id = []; name = []; duration = 0; freeze = None; penalty_time = 0; verification = false; medals = record { gold = 0; silver = 0; bronze = 0 } };
  start = None;
})

-- with the changes that aren't committed yet, and as the last commit left it
abbrev pub contest_of : State → ContestState
contest_of s = unwrap_or (contest_in_trees s.now.trees) no_contest

abbrev pub committed_of : State → ContestState
committed_of s = unwrap_or (contest_in_trees s.committed.trees) no_contest

-- what an open after a crash may find: this contest, or tables that show none
abbrev pub may_leave_of : State → Option ContestState → Type 0
may_leave_of s c = (db : Trees) × s.may_leave db × (contest_in_trees db ≡ c)

-- the tables show this sound contest now, and this one as they were last committed
pub record HoldsContests (s : State) (now kept : ContestState) : Type 0 where
  pub sound : IsSound now
  pub was_sound : IsSound kept
  pub holds : Holds s (Showing (table_rows now)) (Showing (table_rows kept))
