use Rattle.std.proofs.Common.{◌≡◌, map, take}
use Rattle.contest_types.specs.declared.problem_key.ProblemKey.{ProblemKey}
use Rattle.contest_types.proofs.problem_key.problem_order.Given as goal

abbrev pub invariant-loop-key : goal.invariant-loop-key
invariant-loop-key l = l.order.items ≡ map (λ (k : ProblemKey). k.place) (take l.key-index l.key-items)
