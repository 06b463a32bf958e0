use Rattle.std.proofs.Common.{◌≡◌, ◌++◌, drop}
use Rattle.std.specs.List.{filter_map}
use Rattle.contest_rules.specs.Rejudging.{release_of}
use Rattle.contest_rules.proofs.rejudging.releases_of.Given as goal

-- the releases so far, and those of the members that are left
abbrev pub invariant-loop-member : goal.invariant-loop-member
invariant-loop-member g l = l.next ++ filter_map (release_of (g.J.Judged.releases l.judged) l.now) (drop l.member-index l.members) ≡ filter_map (release_of (g.J.Judged.releases l.judged) l.now) l.members
