use Rattle.std.proofs.Common.{subst, sym}
use Rattle.sqlite.specs.Held.{state}
use Rattle.contest_store_sqlite.specs.Keeping.{IsTrusted}
use Rattle.contest_cli_commands.specs.Serve.{ServesTables}
use Rattle.contest_cli_commands.proofs.PrintLemmas.{stops_opening}
use Rattle.contest_cli_commands.proofs.ServeEndings.{opened, unopened}
use Rattle.contest_cli_commands.proofs.TableLemmas.{served}
use Rattle.contest_cli_commands.proofs.serve_command.run_serve.Goals as goal

pub returns-in-Ok-clause-serves : goal.returns-in-Ok-clause-serves
returns-in-Ok-clause-serves g c =
    let old = state g.S.Store c.args.conn in
    let before = c.in-Ok.desk in
    let after = c.serve_desk-status.new.desk in
    let same = rw c.into_store.ensures.store at c.into_connection.ensures.connection in
    opened c.args.port c.args.requests _ _ _ _ old (state g.S.Store c.into_connection.result) _ c.serve_desk-status.ensures.told
    (λ clean.
    let trusted = subst (λ conn. IsTrusted (state g.S.Store conn)) same (c.into_connection.ensures.clean clean) in
    subst (λ conn. ServesTables c.args.requests old (state g.S.Store conn)) (sym same)
    (served g.S.Store c.args.requests old before after (c.in-Ok.ensures.opened (c.serve_desk-status.ensures.clean trusted).0) (c.serve_desk-status.ensures.served trusted)))

pub returns-in-Ok-clause-clients : goal.returns-in-Ok-clause-clients
returns-in-Ok-clause-clients g c zero = record {
  before = c.in-Ok.desk;
  after = c.serve_desk-status.new.desk;
  opened = c.in-Ok.ensures.opened;
  here = c.serve_desk-status.ensures.clients zero;
  kept = rw c.into_store.ensures.store at c.into_connection.ensures.connection;
}

pub returns-in-Err-clause-serves : goal.returns-in-Err-clause-serves
returns-in-Err-clause-serves g c =
    let old = state g.S.Store c.args.conn in
    let new = state g.S.Store c.in-Err.conn in
    unopened _ _ _ _ _ old new _ c.refusal.result (stops_opening old new c.in-Err.error c.refusal.result c.refusal.ensures.value (λ is clean up. c.in-Err.ensures.first clean is up)) c.refuse.ensures.status c.refuse.ensures.told c.in-Err.ensures.refused
