use Rattle.std.proofs.Common.{IsTrue, subst, sym}
use Rattle.sqlite.specs.Held.{state}
use Rattle.sqlite.specs.State.{HasCleanDisk}
use Rattle.contest_store.specs.Keeping.{LeavesOnly}
use Rattle.contest_store_sqlite.specs.Contests.{committed_of, may_leave_of}
use Rattle.contest_cli_commands.specs.Init.{LeavesNew, Sets}
use Rattle.contest_cli_commands.proofs.InitLemmas.{refused_stops, sets}
use Rattle.contest_cli_commands.proofs.init_command.set_up.Goals as goal

pub returns-in-Ok-clause-ok : goal.returns-in-Ok-clause-ok
returns-in-Ok-clause-ok g c =
    let store = c.in-Ok.store in
    let old = state g.S.Store c.args.conn in
    let same = c.into_connection.ensures.connection in
    let settled = subst (λ conn. HasCleanDisk (state g.S.Store conn) → IsTrue (state g.S.Store conn).is_open → LeavesOnly (may_leave_of (state g.S.Store conn)) (committed_of (state g.S.Store conn))) same c.into_connection.ensures.settled in
    subst (λ conn. HasCleanDisk (state g.S.Store conn) → Sets c.args.contest old (state g.S.Store conn)) (sym same)
    (λ clean. sets c.args.contest old (state g.S.Store store.conn) (record { faults = store.faults; refusals = store.refusals }) store.commits store.is_loaded
    (c.in-Ok.ensures.created clean) (c.in-Ok.ensures.stood clean) (settled clean))

pub returns-in-Err-clause-err : goal.returns-in-Err-clause-err
returns-in-Err-clause-err g c =
    refused_stops c.args.contest (state g.S.Store c.args.conn) (state g.S.Store c.in-Err.conn) _ c.in-Err.refusal c.requires.valid
    c.in-Err.ensures.kinds c.in-Err.ensures.malformed c.in-Err.ensures.differs c.in-Err.ensures.unchanged
    (λ is. ((λ clean up. c.in-Err.ensures.first clean is up), c.in-Err.ensures.old is))

pub returns-in-Ok-clause-leaves : goal.returns-in-Ok-clause-leaves
returns-in-Ok-clause-leaves g c =
    subst (λ conn. LeavesNew c.args.contest (state g.S.Store c.args.conn) (state g.S.Store conn)) (sym c.into_connection.ensures.connection) c.in-Ok.ensures.survives
