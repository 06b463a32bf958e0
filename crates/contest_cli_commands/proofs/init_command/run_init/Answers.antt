use Rattle.contest_cli_commands.proofs.InitLemmas.{set_up, stopped}
use Rattle.contest_cli_commands.proofs.init_command.run_init.Goals as goal

pub returns-in-Ok : goal.returns-in-Ok
returns-in-Ok g c = set_up _ _ _ _ _ c.in-Ok.ensures.ok c.in-Ok.ensures.leaves

pub returns-in-Err : goal.returns-in-Err
returns-in-Err g c =
    stopped _ _ _ _ _ _ c.in-Err.stop _ c.in-Err.ensures.err c.in-Err.ensures.leaves c.refuse.ensures.status c.refuse.ensures.told
