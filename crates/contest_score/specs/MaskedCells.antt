-- A team's attempts at a problem and the cell that they come to, by the verdicts that a mask shows
-- (DOMjudge manual, "Scoreboard").
use Rattle.std.specs.Prelude.{◌≡◌, ℕ, ◌<◌, Bool, true, ◌&&◌, ◌==◌, List, length, map, filter, Option, Some, None, IfSome, slice_get}
use Rattle.std.specs.Option.{option_map, option_map_or}
use Rattle.contest_types.specs.Setup.{Setup}
use Rattle.contest_types.specs.Clock.{reached}
pub use Rattle.contest_types.specs.Masks.{knows_all_of, mask_for, verdict_under}
use Rattle.contest_types.specs.declared.marks.Marks.{Marks}
use Rattle.contest_types.specs.declared.audience.Audience.{Audience}
use Rattle.contest_types.specs.declared.objects.JudgementType.{JudgementType}
use Rattle.contest_score.specs.declared.attempt.Verdict.{Verdict}
use Rattle.contest_score.specs.declared.attempt.Attempt.{Attempt}
use Rattle.contest_score.specs.declared.cell.Cell.{Cell}
use Rattle.contest_types.specs.declared.sight.Mask.{Mask}
use Rattle.contest_score.specs.declared.submission.JudgedSubmission.{JudgedSubmission}
use Rattle.contest_score.specs.Scoring.{cell_of_attempts}

-- the judgement type at a place, as scoring sees it
abbrev pub verdict_of : List JudgementType → Option ℕ → Option Verdict
verdict_of types None = None
verdict_of types (Some place) = option_map (λ (t : JudgementType). record { solving = t.solved; penalised = t.penalty }) (slice_get types place)

abbrev pub attempt_under : Mask → Setup → Marks → JudgedSubmission → Attempt
attempt_under mask s marks u = record { time = u.time; verdict = verdict_of s.types (verdict_under mask s marks u.time u.verdict) }

abbrev pub is_by : ℕ → ℕ → JudgedSubmission → Bool
is_by team problem u = (u.team == team) && (u.problem == problem)

-- the attempts of a team at a problem, in order, as they are seen under a mask
abbrev pub attempts_under : Mask → Setup → Marks → List JudgedSubmission → ℕ → ℕ → List Attempt
attempts_under mask s marks us team problem = map (attempt_under mask s marks) (filter (is_by team problem) us)

-- the start of the contest, 0 where it isn't set
abbrev pub start_of : Marks → ℕ
start_of marks = option_map_or (λ start. start) marks.start 0

-- the cell of a team at a problem under a mask
abbrev pub cell_under : Mask → Setup → Marks → List JudgedSubmission → ℕ → ℕ → Cell
cell_under mask s marks us team problem = cell_of_attempts (start_of marks) (attempts_under mask s marks us team problem)

-- the cell of a team at a problem, as the caller sees it now
abbrev pub cell_for : Audience → Setup → Marks → ℕ → List JudgedSubmission → ℕ → ℕ → Cell
cell_for who s marks now us team problem = cell_under (mask_for who marks now team) s marks us team problem

-- the submission names what is there, and isn't before the start
pub record IsAdmitted (s : Setup) (marks : Marks) (u : JudgedSubmission) : Type 0 where
  pub team : u.team < length s.teams
  pub problem : u.problem < length s.problems
  pub verdict : IfSome u.verdict (λ place. place < length s.types)
  pub started : reached marks.start u.time ≡ true
