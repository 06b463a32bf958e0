use Rattle.std.proofs.Common.{inr}
use Rattle.std.proofs.lemmas.Result.{IfErr-weaker, IfOk-weaker}
use Rattle.contest_streams.specs.Streams.{stream}
use Rattle.contest_cli_audit.proofs.other_board.board_at.Goals as goal

pub returns-in-Ok-clause-ok : goal.returns-in-Ok-clause-ok
returns-in-Ok-clause-ok g c =
    IfOk-weaker c.board_in.result _ _ (λ rows h. (c.in-Ok.file, c.in-Ok.ensures.reads, h)) c.board_in.ensures.ok

pub returns-in-Ok-clause-err : goal.returns-in-Ok-clause-err
returns-in-Ok-clause-err g c =
    IfErr-weaker c.board_in.result _ _ (λ stop h. inr (c.in-Ok.file, c.in-Ok.ensures.reads, stream g.W.File.Read.remaining c.board_in.new.file, h)) c.board_in.ensures.err
