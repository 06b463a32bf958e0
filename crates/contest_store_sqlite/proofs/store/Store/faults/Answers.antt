use Rattle.contest_store_tables.specs.Connected.{shown_by}
use Rattle.contest_store_sqlite.proofs.ShownContests.{trusted}
use Rattle.contest_store_sqlite.proofs.store.Store.faults.Goals as goal

pub returns-clause-clean : goal.returns-clause-clean
returns-clause-clean g c = rw (← c.self.view_is) (trusted (shown_by g.S.Store c.self.inside.keeper.tables) c.self.invariant.0)
