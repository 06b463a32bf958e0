use Rattle.sqlite.specs.Held.{state}
use Rattle.contest_streams.specs.Streams.{stream}
use Rattle.contest_cli_commands.proofs.PrintLemmas.{prints}
use Rattle.contest_cli_commands.proofs.print_command.run_print.Goals as goal

pub returns : goal.returns
returns g c =
    prints c.args.now c.args.asked (stream g.O.Write.contents c.args.out.now) (stream g.O.Write.contents c.run_shown.new.out) (stream g.E.Write.contents c.args.err.now) (stream g.E.Write.contents c.run_shown.new.err)
    c.run_shown.result.0 (state g.S.Store c.args.conn) (state g.S.Store c.run_shown.result.1) c.run_shown.ensures
