use Rattle.std.proofs.Common.{◌≡◌, take}
use Rattle.contest_score.specs.Scoring.{cell_of_attempts}
use Rattle.contest_score.proofs.cell.cell_of.Given as goal

-- the cell of the attempts so far
abbrev pub invariant-loop-attempt : goal.invariant-loop-attempt
invariant-loop-attempt l = l.cell ≡ cell_of_attempts l.start (take l.attempt-index l.attempts)
