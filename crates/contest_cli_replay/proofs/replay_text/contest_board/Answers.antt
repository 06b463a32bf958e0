use Rattle.std.proofs.lemmas.Result.{IfOk-weaker}
use Rattle.contest_cli_replay.proofs.replay_text.contest_board.Goals as goal

pub returns-clause-board : goal.returns-clause-board
returns-clause-board c =
    IfOk-weaker c.board_at.result _ _
    (λ b h. rw (c.submissions.ensures.value, c.settings-2.ensures, c.retain_until.ensures, c.marks-marks.ensures, c.moment_for-now.ensures, c.audience_for.ensures, c.settings.ensures) at h)
    c.board_at.ensures.board

pub board_at-requires-clause-admitted : goal.board_at-requires-clause-admitted
board_at-requires-clause-admitted c =
    rw (c.settings-2.ensures, c.marks-marks.ensures, c.retain_until.ensures) (rw c.retain_until.ensures at c.submissions.ensures.admitted c.args.asked.now.thawed)
