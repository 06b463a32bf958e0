use Rattle.std.proofs.Common.{◌≡◌, take}
use Rattle.contest_score.proofs.FirstSolves.{firsts_by_problem}
use Rattle.contest_score.proofs.first_solves.first_solves.Given as goal

-- the first solves among those so far
abbrev pub invariant-loop-solve : goal.invariant-loop-solve
invariant-loop-solve l = l.firsts.items ≡ firsts_by_problem (take l.solve-index l.solves) l.problems
