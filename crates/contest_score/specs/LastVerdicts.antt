-- The verdicts that were released last, one for each submission (Contest API 2023-06, judgements).
-- Words of private functions: nothing public is said with them.
use Rattle.std.specs.Prelude.{ℕ, ◌&&◌, ◌==◌, List, Option, Some, if◌then◌else◌}
use Rattle.std.specs.HashMap.{HashMap, get}
use Rattle.contest_types.specs.State.{names, of_release}
use Rattle.contest_types.specs.Sight.{last_on, type_of}
use Rattle.contest_types.specs.declared.submission.Submission.{Submission}
use Rattle.contest_types.specs.declared.submission.Release.{Release}
use Rattle.contest_score.specs.declared.submission.JudgedSubmission.{JudgedSubmission}

-- the type of the last of the releases on a team's submission with this number
abbrev pub last_type : List Release → (team number : ℕ) → Option ℕ
last_type releases team number = type_of (last_on releases team number)

-- what is last on each submission after one more release
abbrev pub released_with : (ℕ → ℕ → Option ℕ) → Release → (team number : ℕ) → Option ℕ
released_with types v team number = if names team number (of_release v) then Some v.verdict else types team number

-- what a map has for a team and a number
abbrev pub type_in : {H : Type 0} → HashMap (ℕ × ℕ) ℕ H → (team number : ℕ) → Option ℕ
type_in types team number = get (λ p q. (p.0 == q.0) && (p.1 == q.1)) types (team, number)

-- a submission with what is last on it
abbrev pub judged_by : (ℕ → ℕ → Option ℕ) → Submission → JudgedSubmission
judged_by types s = record { team = s.team; problem = s.problem; time = s.time; verdict = types s.team s.number }
