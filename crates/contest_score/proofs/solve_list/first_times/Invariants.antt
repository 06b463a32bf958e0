use Rattle.std.proofs.Common.{◌≡◌, ℕ, take}
use Rattle.contest_score.specs.SolveSteps.{first_time, time_in}
use Rattle.contest_score.proofs.solve_list.first_times.Given as goal

-- the first times of the submissions so far
abbrev pub invariant-loop-submission : goal.invariant-loop-submission
invariant-loop-submission l = (team problem : ℕ) → time_in l.times team problem ≡ first_time l.fixed.settings l.fixed.marks (take l.submission-index l.submissions) team problem
