use Rattle.contest_cli.proofs.shown_commands.ExportWordsFileCommand.run.Goals as goal

pub returns-in-Csv : goal.returns-in-Csv
returns-in-Csv g c = (c.run_export.ensures.statuses, rw c.in-Csv.is c.run_export.ensures)

pub returns-in-Icpc : goal.returns-in-Icpc
returns-in-Icpc g c = (c.run_results.ensures.statuses, rw c.in-Icpc.is c.run_results.ensures)
