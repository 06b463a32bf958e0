use Rattle.contest_score.proofs.Sums.{Sums-solved, Sums-unsolved, score_at_end}
use Rattle.contest_score.proofs.score.score_of.Goals as goal
use Rattle.contest_score.proofs.score.score_of.Goals.{in-Some, in_default}

pub loop-cell-preserved : goal.loop-cell-preserved
loop-cell-preserved c = elim c.match-cell.branch [
  | in-Some w ↦ rw (w.solved-is, w.last-is, w.later-last.ensures) (Sums-solved c.args.penalty_time c.args.cells.now c.loop-cell.cell-index c.loop-cell.solved c.loop-cell.total c.loop-cell.last _ w.in-Some.minute c.points-total.result c.loop-cell.invariant c.loop-cell-test.true w.in-Some.is c.points-total.ensures.value c.points-total.ensures.bound)
  | in_default w ↦ rw (w.solved-is, w.last-is) (Sums-unsolved c.args.penalty_time c.args.cells.now c.loop-cell.cell-index c.loop-cell.solved c.loop-cell.total c.loop-cell.last _ c.points-total.result c.loop-cell.invariant c.loop-cell-test.true w.in_default.is c.points-total.ensures.value c.points-total.ensures.bound)
]

pub returns : goal.returns
returns c = score_at_end c.args.penalty_time c.args.cells.now c.loop-cell.cell-index c.loop-cell.solved c.loop-cell.total c.loop-cell.last c.loop-cell-test.false c.loop-cell.invariant
