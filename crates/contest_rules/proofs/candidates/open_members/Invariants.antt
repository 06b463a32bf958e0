use Rattle.std.proofs.Common.{◌≡◌, ℕ, take}
use Rattle.contest_rules.specs.Candidates.{is_in}
use Rattle.contest_rules.specs.Opening.{is_rejudged}
use Rattle.contest_rules.proofs.candidates.open_members.Given as goal

-- the members of those so far
abbrev pub invariant-loop-rejudging : goal.invariant-loop-rejudging
invariant-loop-rejudging l = (team number : ℕ) → is_in l.members team number ≡ is_rejudged team number (take l.rejudging-index l.rejudgings)
