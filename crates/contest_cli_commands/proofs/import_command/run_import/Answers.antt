use Rattle.std.proofs.Common.{◌∙◌}
use Rattle.std.proofs.lemmas.Result.{IfErr-at_err, IfOk-at_ok}
use Rattle.sqlite.specs.Held.{state}
use Rattle.contest_cli_commands.proofs.ImportLemmas.{stopped, told}
use Rattle.contest_cli_commands.proofs.import_command.run_import.Goals as goal

pub returns-in-Ok : goal.returns-in-Ok
returns-in-Ok g c =
    told c.args.now c.args.kind _ _ (state g.S.Store c.args.conn) (state g.S.Store c.import-added.result.1) c.import-added.ensures.leaves _ _ _ _ _ c.in-Ok.added _
    (IfOk-at_ok _ c.in-Ok.is c.import-added.ensures.ok) (c.as_bytes.ensures.value ∙ (c.as_str.ensures.value ∙ c.added_line.ensures)) c.show.ensures

pub returns-in-Err : goal.returns-in-Err
returns-in-Err g c =
    stopped c.args.now c.args.kind _ _ (state g.S.Store c.args.conn) (state g.S.Store c.import-added.result.1) c.import-added.ensures.leaves _ _ _ _ c.in-Err.stop
    (IfErr-at_err _ c.in-Err.is c.import-added.ensures.err) c.refuse.ensures.status c.refuse.ensures.told
