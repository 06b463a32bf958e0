-- The contest of the model that a replay is of (own): one language, empty files, no groups, no
-- accounts and no keys; each verdict is released at its submission's time, with no proposal kept.
use Rattle.std.specs.Prelude.{ℕ, ◌+◌, Bool, List, [], ◌∷◌, ◌++◌, filter, length, map, Option, Some, None, if◌then◌else◌, nat_le}
use Rattle.std.specs.List.{flat_map}
use Rattle.contest_types.specs.PlainRows.{plain_submission}
use Rattle.contest_types.specs.Setup.{Setup}
use Rattle.contest_types.specs.State.{ContestState}
use Rattle.contest_types.specs.declared.marks.Marks.{Marks}
use Rattle.contest_types.specs.declared.submission.Submission.{Submission}
use Rattle.contest_types.specs.declared.submission.Release.{Release}
use Rattle.contest_score.specs.declared.submission.JudgedSubmission.{JudgedSubmission}
use Rattle.contest_replay.specs.ReplayLists.{team_submissions}

-- a submission, and which of its team's it is, counted from 1
pub record Numbered : Type 0 where
  pub number : ℕ
  pub row : JudgedSubmission

-- the submissions numbered, each after those before it
abbrev pub numbered_after : List JudgedSubmission → List JudgedSubmission → List Numbered
numbered_after earlier [] = []
numbered_after earlier (u ∷ us) = record { number = length (team_submissions u.team earlier) + 1; row = u } ∷ numbered_after (earlier ++ u ∷ []) us

abbrev pub submission_of : Numbered → Submission
submission_of n = plain_submission n.row.team n.number n.row.time n.row.problem 0

abbrev pub released : Numbered → Option ℕ → List Release
released n None = []
released n (Some verdict) = record { team = n.row.team; number = n.number; round = 1; verdict = verdict; time = n.row.time } ∷ []

abbrev pub releases_of : List Numbered → List Release
releases_of = flat_map (λ n. released n n.row.verdict)

-- a replay starts at moment 0; where it is thawed, it is from its end on
abbrev pub replay_marks : (thaw : Option ℕ) → Marks
replay_marks thaw = record { start = Some 0; thaw = thaw; finalized = None }

abbrev pub marks_for : Setup → (thawed : Bool) → Marks
marks_for s thawed = replay_marks (if thawed then Some s.head.duration else None)

-- the submissions up to a moment
abbrev pub up_to : ℕ → List JudgedSubmission → List JudgedSubmission
up_to now us = filter (λ u. nat_le u.time now) us

-- the contest of these settings and marks with these submissions
abbrev pub replay_contest : Setup → Marks → List JudgedSubmission → ContestState
replay_contest s marks us = record {
  fixed = record { settings = s; accounts = []; marks = marks };
  submissions = map submission_of (numbered_after [] us);
  proposals = [];
  releases = releases_of (numbered_after [] us);
  clarifications = [];
  rejudgings = [];
}
