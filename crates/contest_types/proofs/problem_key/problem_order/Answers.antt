use Rattle.std.proofs.Common.{◌∙◌, length}
use Rattle.contest_types.specs.declared.problem_key.ProblemKey.{ProblemKey}
use Rattle.contest_types.specs.ProblemKeys.{TellsProblem}
use Rattle.contest_types.proofs.KeyOrder.{all_within}
use Rattle.contest_types.proofs.ProblemOrder.{problems_sorted, few_problems}
use Rattle.contest_types.proofs.problem_key.problem_order.Goals as goal

pub returns-clause-order : goal.returns-clause-order
returns-clause-order c =
    (rw c.deref-key-items.ensures.value at c.loop-key.invariant)
    ∙ problems_sorted c.args.settings.now c.problems.ensures.valid c.in_ok-keys.keys.items c.sort_unstable.new.self.items c.sort_unstable.ensures.permutation (rw c.problems.ensures.list at c.in_ok-keys.ensures.places) (rw c.problems.ensures.list at c.in_ok-keys.ensures.told) c.sort_unstable.ensures.sorted c.loop-key.key-index (rw c.deref-key-items.ensures.value at c.loop-key-test.false)

pub returns-clause-few : goal.returns-clause-few
returns-clause-few c =
    few_problems c.args.settings.now c.problems.ensures.valid c.in_ok-keys.keys.items c.sort_unstable.new.self.items c.sort_unstable.ensures.permutation (rw c.problems.ensures.list at c.in_ok-keys.ensures.places) c.loop-key.key-index c.loop-key.order.items (rw c.deref-key-items.ensures.value at c.loop-key.invariant)

pub returns-clause-there : goal.returns-clause-there
returns-clause-there c =
    all_within (λ (k : ProblemKey). k.place) (TellsProblem c.args.settings.now.problems) (length c.args.settings.now.problems) (λ k t. t.within) c.in_ok-keys.keys.items c.sort_unstable.new.self.items c.sort_unstable.ensures.permutation (rw c.problems.ensures.list at c.in_ok-keys.ensures.told) c.loop-key.key-index c.loop-key.order.items (rw c.deref-key-items.ensures.value at c.loop-key.invariant)
