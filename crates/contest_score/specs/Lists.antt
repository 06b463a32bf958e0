-- What scoring asks of a contest's own lists (own).
use Rattle.std.specs.Prelude.{◌≡◌, ◌<◌, ◌^◌, true, List, length, All}
use Rattle.contest_types.specs.Clock.{reached}
use Rattle.contest_types.specs.State.{FixedPart}
use Rattle.contest_types.specs.declared.submission.Submission.{Submission}
use Rattle.contest_types.specs.declared.submission.Release.{Release}

-- the submission is by a team and at a problem that are there, and isn't before the start
pub record IsCountable (f : FixedPart) (s : Submission) : Type 0 where
  pub team : s.team < length f.settings.teams
  pub problem : s.problem < length f.settings.problems
  pub started : reached f.marks.start s.time ≡ true

-- the submissions can be counted, and each release is of a judgement type that is there
pub record CanBeScored (f : FixedPart) (submissions : List Submission) (releases : List Release) : Type 0 where
  pub few : length submissions < 2 ^ 32
  pub countable : All (IsCountable f) submissions
  pub of_types : All (λ v. v.verdict < length f.settings.types) releases
