-- A replay is a desk's day (own). The law is the contract of a function of src/laws.rt.
use Rattle.std.specs.Prelude.{◌≡◌, ◌+◌, ℕ, List, map, Option, Some, None}
use Rattle.std.specs.Option.{option_map}
use Rattle.contest_types.specs.PlainRows.{plain_submission}
use Rattle.contest_types.specs.Setup.{Setup}
use Rattle.contest_types.specs.State.{ContestState}
use Rattle.contest_types.specs.declared.audience.Audience.{Audience}
use Rattle.contest_types.specs.declared.objects.Group.{Group}
use Rattle.contest_types.specs.declared.objects.Language.{Language}
use Rattle.contest_types.specs.declared.submission.Release.{Release}
use Rattle.contest_types.specs.declared.submission.Submission.{Submission}
use Rattle.contest_score.specs.Contest.{board_for}
use Rattle.contest_score.specs.declared.submission.JudgedSubmission.{JudgedSubmission}
use Rattle.contest_replay.specs.ReplayContest.{replay_contest, replay_marks, up_to}

-- the settings with these languages and groups, which a replay file doesn't tell
abbrev pub with_untold : Setup → List Language → List Group → Setup
with_untold s languages groups = record s { languages = languages; groups = groups }

-- a submission but for its program and its key
abbrev pub without_program : Submission → Submission
without_program s = plain_submission s.team s.number s.time s.problem 0

-- a submission of a replay, whose start is moment 0, in a contest that starts at this moment
abbrev pub begun_at : (start : ℕ) → Submission → Submission
begun_at start s = record s { time = start + s.time }

-- a release but for when it was
abbrev pub without_time : Release → Release
without_time v = record v { time = 0 }

-- a desk's contest has what the contest of a replay has: its settings, its start at this moment, its thaw that much later, its
-- submissions in their order that much later, and its verdicts in their order, whenever they were released
pub record IsDayOf (start : ℕ) (r y : ContestState) : Type 0 where
  pub settings : y.fixed.settings ≡ with_untold r.fixed.settings y.fixed.settings.languages y.fixed.settings.groups
  pub starts : y.fixed.marks.start ≡ Some start
  pub thaws : y.fixed.marks.thaw ≡ option_map (λ thaw. start + thaw) r.fixed.marks.thaw
  pub submissions : map without_program y.submissions ≡ map (begun_at start) r.submissions
  pub releases : map without_time y.releases ≡ map without_time r.releases

-- the rows that a replay shows at a contest time are those of a desk that has the same submissions and verdicts until then
abbrev pub ReplaysAreDays : Type 0
ReplaysAreDays =
    (start now : ℕ) (s : Setup) (thaw : Option ℕ) (us : List JudgedSubmission) (y : ContestState) → IsDayOf start (replay_contest s (replay_marks thaw) (up_to now us)) y
    → (a : Audience) → board_for a (start + now) None y ≡ board_for a now None (replay_contest s (replay_marks thaw) (up_to now us))
