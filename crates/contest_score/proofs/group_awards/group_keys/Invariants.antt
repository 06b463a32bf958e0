use Rattle.contest_score.specs.declared.group_awards.GroupKey.{GroupKey}
use Rattle.contest_score.specs.Keys.{TellsGroup}
use Rattle.contest_types.proofs.Placed.{Listed}
use Rattle.contest_score.proofs.group_awards.group_keys.Given as goal

-- a key for each group so far
abbrev pub invariant-loop-place : goal.invariant-loop-place
invariant-loop-place l = Listed (λ (k : GroupKey). k.place) (TellsGroup l.groups) l.place l.keys.items
