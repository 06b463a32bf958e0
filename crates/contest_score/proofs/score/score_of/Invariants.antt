use Rattle.contest_score.proofs.Sums.{Sums}
use Rattle.contest_score.proofs.score.score_of.Given as goal

-- what the cells so far come to
abbrev pub invariant-loop-cell : goal.invariant-loop-cell
invariant-loop-cell l = Sums l.penalty_time l.cells l.cell-index l.solved l.total l.last
