use Rattle.contest_cli_commands.proofs.ServingLemmas.{nobody}
use Rattle.contest_cli_commands.proofs.serve_command.serve_from.Goals as goal

pub returns-in-Err-clause-served : goal.returns-in-Err-clause-served
returns-in-Err-clause-served g c = λ clean. nobody c.args.requests (g.S.ContestStore.kept c.args.desk.now)
