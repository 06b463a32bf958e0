use Rattle.sqlite.specs.Held.{state}
use Rattle.contest_streams.specs.Streams.{stream}
use Rattle.contest_cli_commands.proofs.ResultsLemmas.{exports_results}
use Rattle.contest_cli_commands.proofs.results_command.run_results.Goals as goal

pub returns : goal.returns
returns g c =
    exports_results (stream g.O.Write.contents c.args.out.now) (stream g.O.Write.contents c.run_shown.new.out) (stream g.E.Write.contents c.args.err.now) (stream g.E.Write.contents c.run_shown.new.err)
    c.run_shown.result.0 (state g.S.Store c.args.conn) (state g.S.Store c.run_shown.result.1) c.run_shown.ensures
