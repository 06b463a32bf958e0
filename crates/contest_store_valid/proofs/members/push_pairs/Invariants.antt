use Rattle.std.proofs.Common.{◌≡◌, ◌++◌, map, take}
use Rattle.contest_store_valid.specs.Members.{pair_of_member}
use Rattle.contest_store_valid.proofs.members.push_pairs.Given as goal

abbrev pub invariant-loop-member : goal.invariant-loop-member
invariant-loop-member l = l.pairs.items ≡ l.initial.pairs.items ++ map pair_of_member (take l.member-index l.members)
