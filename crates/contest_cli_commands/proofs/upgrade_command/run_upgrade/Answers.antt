use Rattle.std.proofs.Common.{refl}
use Rattle.std.proofs.lemmas.Result.{IfErr-at_err, IfOk-at_ok}
use Rattle.sqlite.specs.Held.{state}
use Rattle.contest_cli_commands.specs.Upgrade.{schema_line}
use Rattle.contest_cli_commands.proofs.UpgradeEndings.{shown, stopped}
use Rattle.contest_cli_commands.proofs.upgrade_command.run_upgrade.Goals as goal

pub returns-in-Ok : goal.returns-in-Ok
returns-in-Ok g c =
    shown _ _ (state g.S.Store c.args.conn) (state g.S.Store c.upgrade-moved.result.1) _ c.upgrade-moved.ensures.survives _ _ c.in-Ok.field-0 schema_line
    (λ clean. IfOk-at_ok _ c.in-Ok.is (c.upgrade-moved.ensures.moved clean)) (λ clean. IfOk-at_ok _ c.in-Ok.is (c.upgrade-moved.ensures.stood clean)) refl c.show.ensures

pub returns-in-Err : goal.returns-in-Err
returns-in-Err g c =
    stopped _ _ (state g.S.Store c.args.conn) (state g.S.Store c.upgrade-moved.result.1) _ c.upgrade-moved.ensures.survives _ c.in-Err.refusal
    (IfErr-at_err _ c.in-Err.is c.upgrade-moved.ensures.kinds) c.refuse.ensures.status c.refuse.ensures.told
