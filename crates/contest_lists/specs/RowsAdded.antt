-- What a change adds to the submissions and to the releases, and whether it changes the settings or the marks.
use Rattle.std.specs.Prelude.{◌≡◌, Bool, true, false, List, [], ◌∷◌}
use Rattle.contest_types.specs.Loads.{without_file}
use Rattle.contest_types.specs.State.{FixedPart}
use Rattle.contest_types.specs.declared.entry.Entry.{Entry}
use Rattle.contest_types.specs.declared.entry.Entry.TheVariants.{NewSubmission, NewRelease, SetStart, SetThaw, SetFinalized, SetDuration, SetTeamName, NewType, NewLanguage, NewProblem, NewGroup, NewTeam}
use Rattle.contest_types.specs.declared.submission.Release.{Release}
use Rattle.contest_types.specs.declared.submission.Submission.{Submission}

-- a submission, without its file
abbrev pub added_submissions : Entry → List Submission
added_submissions (NewSubmission s) = without_file s ∷ []
added_submissions e = []

abbrev pub added_releases : Entry → List Release
added_releases (NewRelease v) = v ∷ []
added_releases e = []

-- a setting or a mark; accounts are neither
abbrev pub is_setting_or_mark : Entry → Bool
is_setting_or_mark (SetStart start) = true
is_setting_or_mark (SetThaw thaw) = true
is_setting_or_mark (SetFinalized finalized) = true
is_setting_or_mark (SetDuration duration freeze) = true
is_setting_or_mark (SetTeamName team name) = true
is_setting_or_mark (NewType t) = true
is_setting_or_mark (NewLanguage l) = true
is_setting_or_mark (NewProblem p) = true
is_setting_or_mark (NewGroup g) = true
is_setting_or_mark (NewTeam t) = true
is_setting_or_mark e = false

abbrev pub HasSameSettings : (old new : FixedPart) → Type 0
HasSameSettings old new = (new.settings ≡ old.settings) × (new.marks ≡ old.marks)
