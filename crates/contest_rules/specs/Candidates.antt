-- How submissions stand that may be named for a rejudging. Words of private functions: nothing public is said with them.
use Rattle.std.specs.Prelude.{ℕ, ◌&&◌, ◌==◌, Bool, List, [], if◌then◌else◌}
use Rattle.std.specs.HashSet.{HashSet, contains}
use Rattle.contest_types.specs.State.{SubmissionRef}
use Rattle.contest_types.specs.ValidRejudgings.{is_open, is_released}
use Rattle.contest_types.specs.declared.rejudging.Member.{Member}
use Rattle.contest_types.specs.declared.rejudging.Rejudging.{Rejudging}
use Rattle.contest_types.specs.declared.submission.Release.{Release}
use Rattle.contest_rules.specs.declared.candidates.Candidate.{Candidate}

-- a set has a team and a number
abbrev pub is_in : {S : Type 0} → HashSet (ℕ × ℕ) S → (team number : ℕ) → Bool
is_in set team number = contains (λ p q. (p.0 == q.0) && (p.1 == q.1)) set (team, number)

-- how a submission stands, by the releases and the set of those that are judged again
abbrev pub candidate_by : {S : Type 0} → List Release → HashSet (ℕ × ℕ) S → SubmissionRef → Candidate
candidate_by vs members s = record { team = s.team; number = s.number; is_released = is_released s.team s.number vs; is_rejudged = is_in members s.team s.number }

abbrev pub members_if_open : Rejudging → List Member
members_if_open r = if is_open r then r.members else []
