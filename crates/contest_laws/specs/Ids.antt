-- What an id names, it names for good (own). Each law is the contract of a function of src/laws.rt.
use Rattle.std.specs.Prelude.{◌≡◌, ◌⊎◌, ◌<◌, ◌^◌, ℕ, true, false, List, length, None, Some}
use Rattle.serde_json.specs.Data.{Data}
use Rattle.contest_types.specs.Clock.{is_frozen, is_thawed}
use Rattle.contest_types.specs.VisibleIds.{judgement_id, submission_id}
use Rattle.contest_types.specs.Order.{Has}
use Rattle.contest_types.specs.State.{ContestState}
use Rattle.contest_types.specs.Valid.{is_valid}
use Rattle.contest_types.specs.declared.audience.Audience.{Audience}
use Rattle.contest_types.specs.declared.submission.Release.{Release}
use Rattle.contest_types.specs.declared.submission.Submission.{Submission}
use Rattle.contest_types.specs.Masks.{is_audience, knows_all_of}
use Rattle.contest_objects.specs.Items.{Item as ServedItem}
use Rattle.contest_view.specs.Clarifications.{clarification_items}
use Rattle.contest_view.specs.Judgements.{judgement_found}
use Rattle.contest_view.specs.Reads.{submission_found}
use Rattle.contest_desk.specs.Runs.{IsRun}
use Rattle.contest_desk.specs.declared.item.Answer.{Answer}
use Rattle.contest_desk.specs.declared.item.Item.{Item}

-- by the id of a submission that stands an audience is answered the same, byte for byte, at any moment of any run after it: its
-- object, or that there is none
abbrev pub SubmissionIdsStay : Type 0
SubmissionIdsStay =
    (a : Audience) (x y : ContestState) (items : List Item) (answers : List Answer) (now later : ℕ) → is_valid x ≡ true → IsRun x items answers y
    → (s : Submission) → Has x.submissions s → submission_found a later y (submission_id s.team s.number) ≡ submission_found a now x (submission_id s.team s.number)

-- what an audience was served of clarifications it is served for good, word for word: their ids name the same
abbrev pub ClarificationsStay : Type 0
ClarificationsStay =
    (a : Audience) (x y : ContestState) (items : List Item) (answers : List Answer) → is_valid x ≡ true → is_audience x.fixed.settings a ≡ true → IsRun x items answers y
    → (served : ServedItem) → Has (clarification_items a x) served → Has (clarification_items a y) served

-- whoever is served a judgement by an id, and whoever is served one by that id at any moment of any run after it: both are served
-- the same, byte for byte. The releases are fewer than any machine holds
abbrev pub JudgementIdsStay : Type 0
JudgementIdsStay =
    (a b : Audience) (x y : ContestState) (items : List Item) (answers : List Answer) (now later : ℕ) → is_valid x ≡ true → IsRun x items answers y → length y.releases < 2 ^ 64
    → (id : List ℕ) (served other : Data) → judgement_found a now x id ≡ Some served → judgement_found b later y id ≡ Some other → other ≡ served

-- another verdict was released since on the submission of the judgement with this id
pub record IsRevised (x y : ContestState) (id : List ℕ) : Type 0 where
  pub revised : Release
  pub stood : Has x.releases revised
  pub named : judgement_id revised.team revised.number revised.round ≡ id
  pub release : Release
  pub stands : Has y.releases release
  pub since : Has x.releases release → ⊥
  pub same_team : release.team ≡ revised.team
  pub same_number : release.number ≡ revised.number
  pub later : revised.round < release.round

-- the submission of the judgement with this id is frozen, and the audience is neither its team nor the jury: it was thawed at the
-- first moment, and isn't at the second
pub record IsHeldAgain (a : Audience) (now later : ℕ) (x y : ContestState) (id : List ℕ) : Type 0 where
  pub submission : Submission
  pub stood : Has x.submissions submission
  pub round : ℕ
  pub named : judgement_id submission.team submission.number round ≡ id
  pub foreign : knows_all_of a submission.team ≡ false
  pub frozen : is_frozen x.fixed.settings x.fixed.marks submission.time ≡ true
  pub thawed : is_thawed x.fixed.marks now ≡ true
  pub held : is_thawed y.fixed.marks later ≡ false

-- what an audience was served by the id of a judgement it is served by it at any moment of any run after it, byte for byte, unless
-- another verdict was released on the submission since, or the thaw alone showed it and hasn't come at that moment
abbrev pub ServedJudgementsStay : Type 0
ServedJudgementsStay =
    (a : Audience) (x y : ContestState) (items : List Item) (answers : List Answer) (now later : ℕ) → is_valid x ≡ true → IsRun x items answers y
    → (id : List ℕ) (served : Data) → judgement_found a now x id ≡ Some served
    → (judgement_found a later y id ≡ Some served) ⊎ (IsRevised x y id ⊎ IsHeldAgain a now later x y id)

-- a judgement that was revised is served to nobody any more
abbrev pub RevisedJudgementsGo : Type 0
RevisedJudgementsGo =
    (a : Audience) (now : ℕ) (x : ContestState) (revised release : Release) → is_valid x ≡ true → length x.releases < 2 ^ 64
    → Has x.releases revised → Has x.releases release → release.team ≡ revised.team → release.number ≡ revised.number → revised.round < release.round
    → judgement_found a now x (judgement_id revised.team revised.number revised.round) ≡ None
