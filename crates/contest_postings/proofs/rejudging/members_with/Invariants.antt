use Rattle.std.proofs.Common.{◌≡◌, ◌+◌, ◌++◌, map, drop}
use Rattle.std.specs.Prelude.{◌==◌, if◌then◌else◌}
use Rattle.std.specs.List.{enumerate_from}
use Rattle.contest_types.specs.State.{changed_at}
use Rattle.contest_types.specs.declared.rejudging.Member.{Member}
use Rattle.contest_postings.proofs.rejudging.members_with.Given as goal

-- the members so far, and those that are left
abbrev pub invariant-loop-at : goal.invariant-loop-at
invariant-loop-at l =
    l.changed ++ map (λ p. if p.0 == l.place then record p.1 { state = l.state } else p.1) (enumerate_from (0 + l.at) (drop l.at l.members))
    ≡ changed_at 0 l.place (λ (m : Member). record m { state = l.state }) l.members
