use Rattle.contest_types.specs.declared.problem_key.ProblemKey.{ProblemKey}
use Rattle.contest_types.specs.ProblemKeys.{TellsProblem}
use Rattle.contest_types.proofs.Placed.{Listed-more}
use Rattle.contest_types.proofs.problem_key.problem_keys.Goals as goal

pub loop-place-preserved : goal.loop-place-preserved
loop-place-preserved c = rw c.in_ok-push.ensures.items (Listed-more (λ (k : ProblemKey). k.place) (TellsProblem c.args.problems.now) c.loop-place.place c.loop-place.keys.items c.problem_key.result c.loop-place.invariant c.problem_key.ensures.place c.problem_key.ensures.told)
