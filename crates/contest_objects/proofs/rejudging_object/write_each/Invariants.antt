use Rattle.std.proofs.Common.{◌≡◌, ◌++◌, take}
use Rattle.std.specs.List.{flat_map}
use Rattle.contest_objects.specs.JsonTokens.{data_tokens}
use Rattle.contest_objects.specs.RejudgingObjects.{member_data}
use Rattle.contest_objects.proofs.rejudging_object.write_each.Given as goal

abbrev pub invariant-loop-member : goal.invariant-loop-member
invariant-loop-member l = (l.out.tokens ≡ l.fn.out.tokens ++ flat_map (λ m. data_tokens (member_data l.settings m)) (take l.member-index l.members)) × (l.out.before ≡ l.fn.out.before)
