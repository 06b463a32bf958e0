-- What a replay's state keeps of its submissions.
use Rattle.std.specs.Prelude.{ℕ, ◌≡◌, ◌<◌, ◌≤◌, true, List, length, map, sum_by, All, Some, None, IfSome, get_or}
use Rattle.contest_types.specs.Series.{never_fall}
use Rattle.contest_types.specs.Setup.{Setup, IsValid}
use Rattle.contest_types.specs.declared.limits.TheConstants.{TEAM_SUBMISSIONS}
use Rattle.contest_types.specs.declared.marks.Marks.{Marks}
use Rattle.contest_score.specs.MaskedCells.{IsAdmitted}
use Rattle.contest_score.specs.declared.submission.JudgedSubmission.{JudgedSubmission}
use Rattle.contest_replay.specs.declared.replay.team_progress.TeamProgress.{TeamProgress}
use Rattle.contest_replay.specs.declared.replay.submission_row.SubmissionRefs.{SubmissionRefs}
use Rattle.contest_replay.specs.ReplayLists.{team_submissions, last_time}

-- the marks of a replay while it is read: it starts at moment 0
abbrev pub reading_marks : Marks
reading_marks = record { start = Some 0; thaw = None; finalized = None }

-- a team's last time and how many submissions it has
pub record TellsProgress (us : List JudgedSubmission) (team : ℕ) (t : TeamProgress) : Type 0 where
  pub last : t.last ≡ last_time team us
  pub count : t.count ≡ length (team_submissions team us)

-- each team of the settings is told of, and each submission names what is there
pub record IsReplayed (s : Setup) (us : List JudgedSubmission) (teams : List TeamProgress) : Type 0 where
  pub all : length teams ≡ length s.teams
  pub told : (i : ℕ) (d : TeamProgress) → i < length teams → TellsProgress us i (get_or teams i d)
  pub early : (i : ℕ) (d : TeamProgress) → i < length teams → (get_or teams i d).last < s.head.duration
  pub few : (i : ℕ) (d : TeamProgress) → i < length teams → (get_or teams i d).count ≤ TEAM_SUBMISSIONS
  pub total : length us ≡ sum_by (λ t. t.count) teams
  pub lasting : 0 < s.head.duration
  pub spoken : 0 < length s.languages
  pub admitted : All (IsAdmitted s reading_marks) us
  pub within : All (λ u. u.time < s.head.duration) us
  pub rising : (team : ℕ) → never_fall (map (λ u. u.time) (team_submissions team us)) ≡ true

-- the submissions of a valid contest: each names what is there and comes before the end, and a team's
-- times never fall and are not too many
pub record ReadsValid (s : Setup) (us : List JudgedSubmission) : Type 0 where
  pub spoken : 0 < length s.languages
  pub admitted : All (IsAdmitted s reading_marks) us
  pub within : All (λ u. u.time < s.head.duration) us
  pub few : (team : ℕ) → team < length s.teams → length (team_submissions team us) ≤ TEAM_SUBMISSIONS
  pub rising : (team : ℕ) → never_fall (map (λ u. u.time) (team_submissions team us)) ≡ true

-- a replay that was read: its settings are valid and its submissions those of a valid contest
pub record IsReplay (s : Setup) (us : List JudgedSubmission) : Type 0 where
  pub settings : IsValid s
  pub reads : ReadsValid s us
  pub few : length us ≤ 250_000

-- the places are there
pub record AreThere (s : Setup) (p : SubmissionRefs) : Type 0 where
  pub team : p.team < length s.teams
  pub problem : p.problem < length s.problems
  pub verdict : IfSome p.verdict (λ place. place < length s.types)
