use Rattle.std.proofs.Common.{◌∙◌}
use Rattle.contest_score.proofs.CellSteps.{room_at, next_cell}
use Rattle.contest_score.proofs.cell.cell_of.Goals as goal

pub with_attempt-cell-requires : goal.with_attempt-cell-requires
with_attempt-cell-requires c =
    rw c.loop-attempt.invariant (room_at c.args.start c.args.attempts.now c.loop-attempt.attempt-index c.requires.few)

pub loop-attempt-preserved : goal.loop-attempt-preserved
loop-attempt-preserved c =
    c.with_attempt-cell.ensures ∙ next_cell c.args.start c.args.attempts.now c.loop-attempt.attempt-index c.attempt-item.result c.loop-attempt.cell c.loop-attempt-test.true c.attempt-item.is c.loop-attempt.invariant
