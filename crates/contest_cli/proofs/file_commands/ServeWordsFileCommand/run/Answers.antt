use Rattle.contest_cli.proofs.file_commands.ServeWordsFileCommand.run.Goals as goal

pub returns : goal.returns
returns g c = (c.run_serve.ensures.serves, c.run_serve.ensures.clients)
