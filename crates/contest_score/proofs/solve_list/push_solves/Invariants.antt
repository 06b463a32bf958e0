use Rattle.std.proofs.Common.{◌≡◌, ◌++◌, take}
use Rattle.contest_score.specs.SolveSteps.{team_solves, time_in}
use Rattle.contest_score.proofs.solve_list.push_solves.Given as goal

-- the solves at the problems so far
abbrev pub invariant-loop-problem : goal.invariant-loop-problem
invariant-loop-problem l = l.solves.items ≡ l.fn.solves.items ++ team_solves (time_in l.times) (take l.problem-index l.order) l.team
