use Rattle.contest_score.specs.declared.group_awards.GroupKey.{GroupKey}
use Rattle.contest_score.specs.Keys.{TellsGroup}
use Rattle.contest_types.proofs.Placed.{Listed-more}
use Rattle.contest_score.proofs.group_awards.group_keys.Goals as goal

pub loop-place-preserved : goal.loop-place-preserved
loop-place-preserved c = rw c.in_ok-push.ensures.items (Listed-more (λ (k : GroupKey). k.place) (TellsGroup c.args.groups.now) c.loop-place.place c.loop-place.keys.items c.group_key.result c.loop-place.invariant c.group_key.ensures.place c.group_key.ensures.told)
