use Rattle.std.proofs.Common.{ap, sym, ◌∙◌}
use Rattle.std.proofs.lemmas.Result.{IfOk-weaker}
use Rattle.contest_score.specs.Ranking.{board_of, is_public}
use Rattle.contest_replay.proofs.ReplayContestLemmas.{replayed_board}
use Rattle.contest_cli_replay.proofs.replay_text.board_at.Goals as goal

pub returns-clause-board : goal.returns-clause-board
returns-clause-board c =
    let s = c.args.settings.now in
    let seen = ap (board_of s (is_public s)) c.in_ok-cells.ensures.cells ∙ sym (replayed_board c.args.audience s c.args.marks.now c.args.now c.args.submissions.now) in
    IfOk-weaker c.board.result _ _ (λ b h. h ∙ seen) c.board.ensures.board
