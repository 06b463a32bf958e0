use Rattle.std.proofs.Common.{◌≡◌, map, take}
use Rattle.contest_store_valid.specs.Members.{all_members, pair_of_member}
use Rattle.contest_store_valid.proofs.members.pairs_of_members.Given as goal

abbrev pub invariant-loop-rejudging : goal.invariant-loop-rejudging
invariant-loop-rejudging l = l.pairs.items ≡ map pair_of_member (all_members (take l.rejudging-index l.rejudgings))
