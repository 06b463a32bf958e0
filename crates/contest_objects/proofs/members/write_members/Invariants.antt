use Rattle.std.proofs.Common.{◌≡◌, ◌++◌, drop, map}
use Rattle.std.specs.List.{flat_map}
use Rattle.contest_objects.specs.JsonTokens.{member_tokens}
use Rattle.contest_objects.specs.Members.{shown}
use Rattle.contest_objects.proofs.members.write_members.Given as goal

-- what is written so far, and what is left to write
abbrev pub invariant-loop-name : goal.invariant-loop-name
invariant-loop-name l =
    (l.fn.out.tokens ++ flat_map member_tokens (map (λ m. (m.0.now, shown m.1)) l.members) ≡ l.out.tokens ++ flat_map member_tokens (map (λ m. (m.0.now, shown m.1)) (drop l.name-index l.members)))
    × (l.out.before ≡ l.fn.out.before)
