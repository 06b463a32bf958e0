-- What holds of all that is read, in the subject's words. Each is the contract of a function of src/laws.rt.
use Rattle.std.specs.Prelude.{◌≡◌, ◌≢◌, ℕ, true, List, [], Option, Some, None, if◌then◌else◌}
use Rattle.std.specs.Option.{option_and_then}
use Rattle.contest_types.specs.Alike.{Alike, MayBeHeld}
use Rattle.contest_types.specs.Clock.{freeze_of}
use Rattle.contest_types.specs.Loads.{file_of, loaded_submissions}
use Rattle.contest_types.specs.Masks.{knows_all_of}
use Rattle.contest_types.specs.Order.{Has}
use Rattle.contest_types.specs.State.{ContestState}
use Rattle.contest_types.specs.Sight.{sees_submission, seen_submission}
use Rattle.contest_types.specs.Valid.{is_valid}
use Rattle.contest_types.specs.declared.audience.Audience.{Audience}
use Rattle.contest_types.specs.declared.audience.Audience.TheVariants.{Jury}
use Rattle.contest_types.specs.declared.submission.Submission.{Submission}
use Rattle.contest_types.specs.VisibleIds.{submission_id}
use Rattle.contest_score.specs.Awards.{shown_awards}
use Rattle.contest_score.specs.declared.award.Award.{Award}
use Rattle.contest_view.specs.Awards.{awards_data, award_found}
use Rattle.contest_view.specs.Clarifications.{clarifications_data, clarification_found}
use Rattle.contest_view.specs.Feeds.{feed_events}
use Rattle.contest_view.specs.FileReads.{file_found, file_place}
use Rattle.contest_objects.specs.AwardObjects.{award_data}
use Rattle.contest_objects.specs.Items.{array_of}
use Rattle.contest_objects.specs.Objects.{submission_object}
use Rattle.contest_view.specs.Reads.{submissions_data, submission_found}
use Rattle.contest_view.specs.Judgements.{judgements_data, judgement_found}
use Rattle.contest_view.specs.Proposals.{proposals_data}
use Rattle.contest_view.specs.Rejudgings.{rejudgings_data, rejudging_found}
use Rattle.contest_view.specs.Scoreboards.{scoreboard_data, group_scoreboard_found}

-- until the thaw, alike contests give an audience the same submissions to read, all of them and by any id
abbrev pub AlikeReadTheSame : Type 0
AlikeReadTheSame =
    (a : Audience) (now : ℕ) (x y : ContestState) → MayBeHeld a now x → Alike a x y
    → (submissions_data a now x ≡ submissions_data a now y) × ((id : List ℕ) → submission_found a now x id ≡ submission_found a now y id)

-- and the same files, by any id
abbrev pub AlikeReadTheSameFiles : Type 0
AlikeReadTheSameFiles =
    (a : Audience) (now : ℕ) (x y : ContestState) (id : List ℕ) → MayBeHeld a now x → Alike a x y → file_found a now x id ≡ file_found a now y id

-- in a valid contest a submission is found by its id where it is seen, and nothing is found where it isn't
abbrev pub SeenIsFound : Type 0
SeenIsFound =
    (a : Audience) (now : ℕ) (x : ContestState) → is_valid x ≡ true → (s : Submission) → Has x.submissions s
    → submission_found a now x (submission_id s.team s.number) ≡ (if sees_submission a x s then Some (submission_object x.fixed (seen_submission a now x s)) else None)

-- by an id that no submission has nothing is found
abbrev pub NothingElseIsFound : Type 0
NothingElseIsFound =
    (a : Audience) (now : ℕ) (x : ContestState) → is_valid x ≡ true → (id : List ℕ) → ((s : Submission) → Has x.submissions s → submission_id s.team s.number ≡ id → ⊥)
    → submission_found a now x id ≡ None

-- in a valid contest the file of a submission is read by its id by its team and the jury, and by nobody else
abbrev pub FilesAreForTheirTeams : Type 0
FilesAreForTheirTeams =
    (a : Audience) (now : ℕ) (x : ContestState) → is_valid x ≡ true → (s : Submission) → Has x.submissions s
    → file_found a now x (submission_id s.team s.number) ≡ (if knows_all_of a s.team then Some s.file else None)

-- in a valid contest the file that is read is that of the submission which its place names
abbrev pub PlacedFileIsFound : Type 0
PlacedFileIsFound =
    (a : Audience) (now : ℕ) (x : ContestState) (id : List ℕ) → is_valid x ≡ true
    → option_and_then (λ (p : ℕ × ℕ). file_of x p.0 p.1) (file_place a x.fixed (loaded_submissions x) id) ≡ file_found a now x id

-- until the thaw, alike contests give an audience the same judgements to read, all of them and by any id
abbrev pub AlikeReadTheSameJudgements : Type 0
AlikeReadTheSameJudgements =
    (a : Audience) (now : ℕ) (x y : ContestState) → MayBeHeld a now x → Alike a x y
    → (judgements_data a now x ≡ judgements_data a now y) × ((id : List ℕ) → judgement_found a now x id ≡ judgement_found a now y id)

-- and the same proposals, which are none
abbrev pub AlikeReadTheSameProposals : Type 0
AlikeReadTheSameProposals = (a : Audience) (now : ℕ) (x y : ContestState) → MayBeHeld a now x → Alike a x y → proposals_data a now x ≡ proposals_data a now y

-- who isn't of the jury reads no rejudging, and by no number
abbrev pub OnlyTheJuryReadsRejudgings : Type 0
OnlyTheJuryReadsRejudgings =
    (a : Audience) (x : ContestState) → a ≢ Jury → (rejudgings_data a x ≡ array_of []) × ((id : List ℕ) → rejudging_found a x id ≡ None)

-- alike contests give an audience the same clarifications to read, all of them and by any id: of those between others it
-- hears nothing
abbrev pub AlikeReadTheSameClarifications : Type 0
AlikeReadTheSameClarifications =
    (a : Audience) (x y : ContestState) → Alike a x y
    → (clarifications_data a x ≡ clarifications_data a y) × ((id : List ℕ) → clarification_found a x id ≡ clarification_found a y id)

-- until the thaw, alike contests show an audience the same scoreboard, the whole one and each group's, by any id
abbrev pub AlikeShowTheSameScoreboard : Type 0
AlikeShowTheSameScoreboard =
    (a : Audience) (now : ℕ) (x y : ContestState) → MayBeHeld a now x → Alike a x y
    → ((group : Option ℕ) → scoreboard_data a now group x ≡ scoreboard_data a now group y)
    × ((id : List ℕ) → group_scoreboard_found a now x id ≡ group_scoreboard_found a now y id)

-- and the same awards, all of them and by any id
abbrev pub AlikeReadTheSameAwards : Type 0
AlikeReadTheSameAwards =
    (a : Audience) (now : ℕ) (x y : ContestState) → MayBeHeld a now x → Alike a x y
    → (awards_data a now x ≡ awards_data a now y) × ((id : List ℕ) → award_found a now x id ≡ award_found a now y id)

-- and the same event feed
abbrev pub AlikeReadTheSameFeed : Type 0
AlikeReadTheSameFeed = (a : Audience) (now : ℕ) (x y : ContestState) → MayBeHeld a now x → Alike a x y → feed_events a now x ≡ feed_events a now y

-- where there is a freeze moment, nobody but the jury reads an award before the thaw, and by no id
abbrev pub NoAwardIsReadBeforeTheThaw : Type 0
NoAwardIsReadBeforeTheThaw =
    (a : Audience) (now freeze : ℕ) (x : ContestState) → MayBeHeld a now x → freeze_of x.fixed.settings x.fixed.marks ≡ Some freeze
    → (awards_data a now x ≡ array_of []) × ((id : List ℕ) → award_found a now x id ≡ None)

-- in a valid contest an award that is shown is found by its id, which no other has
abbrev pub ShownAwardIsFound : Type 0
ShownAwardIsFound =
    (a : Audience) (now : ℕ) (x : ContestState) → is_valid x ≡ true → (w : Award) → Has (shown_awards a now x) w
    → award_found a now x w.id ≡ Some (award_data x.fixed.settings w.id w.citation w.teams)
