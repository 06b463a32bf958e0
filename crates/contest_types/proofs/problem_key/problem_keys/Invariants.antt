use Rattle.contest_types.specs.declared.problem_key.ProblemKey.{ProblemKey}
use Rattle.contest_types.specs.ProblemKeys.{TellsProblem}
use Rattle.contest_types.proofs.Placed.{Listed}
use Rattle.contest_types.proofs.problem_key.problem_keys.Given as goal

-- a key for each problem so far
abbrev pub invariant-loop-place : goal.invariant-loop-place
invariant-loop-place l = Listed (λ (k : ProblemKey). k.place) (TellsProblem l.problems) l.place l.keys.items
