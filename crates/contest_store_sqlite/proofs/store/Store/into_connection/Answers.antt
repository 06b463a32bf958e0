use Rattle.std.proofs.Common.{IsTrue, subst, sym}
use Rattle.sqlite.specs.Held.{state}
use Rattle.sqlite.specs.State.{HasCleanDisk}
use Rattle.contest_store.specs.Keeping.{LeavesOnly}
use Rattle.contest_store_tables.specs.Connected.{connection_of, shown_by}
use Rattle.contest_store_sqlite.specs.Contests.{committed_of, may_leave_of}
use Rattle.contest_store_sqlite.specs.Keeping.{IsTrusted}
use Rattle.contest_store_sqlite.specs.Laws.{settled_at}
use Rattle.contest_store_tables.specs.Numbered.{IsNumbered}
use Rattle.contest_store_sqlite.proofs.ShownContests.{kept_numbered, trusted}
use Rattle.contest_store_sqlite.proofs.store.Store.into_connection.Goals as goal

pub returns-clause-numbered : goal.returns-clause-numbered
returns-clause-numbered g c =
    subst (λ conn. IsNumbered (state g.S.Store conn)) (sym c.into_connection.ensures) (kept_numbered (shown_by g.S.Store c.self.inside.keeper.tables) c.self.invariant.0)

pub returns-clause-clean : goal.returns-clause-clean
returns-clause-clean g c =
    subst (λ conn. HasCleanDisk (state g.S.Store conn) → IsTrusted (state g.S.Store conn)) (sym c.into_connection.ensures) (trusted (shown_by g.S.Store c.self.inside.keeper.tables) c.self.invariant.0)

pub returns-clause-settled : goal.returns-clause-settled
returns-clause-settled g c =
    let conn = connection_of c.self.inside.keeper.tables in
    subst (λ conn. HasCleanDisk (state g.S.Store conn) → IsTrue (state g.S.Store conn).is_open → LeavesOnly (may_leave_of (state g.S.Store conn)) (committed_of (state g.S.Store conn))) (sym c.into_connection.ensures)
    (λ clean. settled_at (g.S.Store.recovers conn.store) (g.S.Store.view conn.store).is_open (g.S.Store.view conn.store).committed _ _ (g.met.S.Store.settled conn.store) (g.met.S.Store.stays conn.store) (trusted (shown_by g.S.Store c.self.inside.keeper.tables) c.self.invariant.0 clean))
