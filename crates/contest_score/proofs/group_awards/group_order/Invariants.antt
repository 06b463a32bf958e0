use Rattle.std.proofs.Common.{◌≡◌, map, take}
use Rattle.contest_score.specs.declared.group_awards.GroupKey.{GroupKey}
use Rattle.contest_score.proofs.group_awards.group_order.Given as goal

abbrev pub invariant-loop-key : goal.invariant-loop-key
invariant-loop-key l = l.order.items ≡ map (λ (k : GroupKey). k.place) (take l.key-index l.key-items)
