use Rattle.std.proofs.Common.{◌≡◌, ℕ, take}
use Rattle.std.specs.Prelude.{◌||◌}
use Rattle.std.specs.List.{list_any}
use Rattle.contest_types.specs.State.{names, of_member}
use Rattle.contest_rules.specs.Candidates.{is_in}
use Rattle.contest_rules.proofs.candidates.with_members.Given as goal

-- those that were there, and the members so far
abbrev pub invariant-loop-member : goal.invariant-loop-member
invariant-loop-member l = (team number : ℕ) → is_in l.more team number ≡ (is_in l.fn.first team number || list_any (λ m. names team number (of_member m)) (take l.member-index l.members))
