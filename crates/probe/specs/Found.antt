-- What a store is opened over.
use Rattle.sqlite_trees.specs.declared.store.Store.{Ghosts}
use Rattle.sqlite.specs.Held.{Held, state}
use Rattle.contest_store_sqlite.specs.Opening.{FindsContest}
use Rattle.contest_store.specs.Keeping.{Kept, Shows}
use Rattle.contest_types.specs.State.{ContestState}

-- the store shows the valid contest whose lists the tables spelled of a connection of which this is known, all of it committed
pub record OpensOver {S : Type 0} (g : Ghosts S) (Found : Held S → Type 0) (kept : Kept) : Type 0 where
  pub conn : Held S
  pub found : Found conn
  pub contest : ContestState
  pub spelled : FindsContest (state g conn) contest
  pub shows : Shows kept contest contest
