use Rattle.std.proofs.Common.{◌∙◌, length}
use Rattle.contest_score.specs.declared.group_awards.GroupKey.{GroupKey}
use Rattle.contest_score.specs.Keys.{TellsGroup}
use Rattle.contest_types.proofs.KeyOrder.{all_within}
use Rattle.contest_score.proofs.GroupOrder.{groups_sorted}
use Rattle.contest_score.proofs.group_awards.group_order.Goals as goal

pub returns-clause-order : goal.returns-clause-order
returns-clause-order c =
    (rw c.deref-key-items.ensures.value at c.loop-key.invariant)
    ∙ groups_sorted c.args.settings.now c.groups.ensures.valid c.in_ok-keys.keys.items c.sort_unstable.new.self.items c.sort_unstable.ensures.permutation (rw c.groups.ensures.list at c.in_ok-keys.ensures.places) (rw c.groups.ensures.list at c.in_ok-keys.ensures.told) c.sort_unstable.ensures.sorted c.loop-key.key-index (rw c.deref-key-items.ensures.value at c.loop-key-test.false)

pub returns-clause-there : goal.returns-clause-there
returns-clause-there c =
    all_within (λ (k : GroupKey). k.place) (TellsGroup c.args.settings.now.groups) (length c.args.settings.now.groups) (λ k t. t.within) c.in_ok-keys.keys.items c.sort_unstable.new.self.items c.sort_unstable.ensures.permutation (rw c.groups.ensures.list at c.in_ok-keys.ensures.told) c.loop-key.key-index c.loop-key.order.items (rw c.deref-key-items.ensures.value at c.loop-key.invariant)
