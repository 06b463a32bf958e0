use Rattle.std.proofs.Common.{map}
use Rattle.contest_streams.specs.Streams.{stream}
use Rattle.contest_cli_audit.proofs.OtherBoardLemmas.{lacks_stops}
use Rattle.contest_cli_audit.proofs.audit_command.audit_of.Goals as goal

pub returns-in-Err-other_board-clause-err : goal.returns-in-Err-other_board-clause-err
returns-in-Err-other_board-clause-err g c =
    lacks_stops g.W.File.Read.remaining g.W.Outside.reads (map (λ s. s.now) c.args.words.now) c.in-Ok.asked (stream g.R.Read.remaining c.args.reader.now)
    c.in-Err-other_board.stop c.in-Ok.ensures.ok c.in-Err-other_board.ensures.err
