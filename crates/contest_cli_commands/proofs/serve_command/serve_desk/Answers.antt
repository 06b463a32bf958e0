use Rattle.contest_cli_commands.proofs.ServingLemmas.{nobody}
use Rattle.contest_cli_commands.proofs.serve_command.serve_desk.Goals as goal

pub returns-in-Ok-clause-told : goal.returns-in-Ok-clause-told
returns-in-Ok-clause-told g c = c.serve_from.ensures.told c.args.port c.in-Ok.ensures.ok

pub returns-in-Err-clause-served : goal.returns-in-Err-clause-served
returns-in-Err-clause-served g c = λ clean. nobody c.args.requests (g.S.ContestStore.kept c.args.desk.now)
