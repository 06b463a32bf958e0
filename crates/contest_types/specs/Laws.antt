-- What holds of every contest, in the subject's words. Each is the contract of a function of src/laws.rt.
use Rattle.std.specs.Prelude.{◌≡◌, ◌↔◌, ℕ, Bool, true, List, Ok}
use Rattle.std.specs.Ordering.{is_lt}
use Rattle.contest_types.specs.Order.{Has, IsInOrder, IsStrict}
use Rattle.contest_types.specs.State.{ContestState, Entry, NewProposal, add_all}
use Rattle.contest_types.specs.Sight.{SeenSubmission, sees_submission, seen_submission, submission_cmp, seen_submissions, SeenClarification, sees_clarification, seen_clarification, clarification_cmp, seen_clarifications}
use Rattle.contest_types.specs.Alike.{Alike, MayBeHeld}
use Rattle.contest_types.specs.Setup.{IsValid}
use Rattle.contest_types.specs.ValidFixed.{has_valid_settings}
use Rattle.contest_types.specs.Valid.{is_valid}
use Rattle.contest_types.specs.VerdictAdditions.{verdict_addition}
use Rattle.contest_types.specs.Addable.{is_addable, are_addable}
use Rattle.contest_types.specs.declared.audience.Audience.{Audience}
use Rattle.contest_types.specs.declared.proposal.Proposal.{Proposal}
use Rattle.contest_types.specs.declared.submission.Submission.{Submission}
use Rattle.contest_types.specs.declared.clarification.Clarification.{Clarification}

-- a contest is alike to itself
abbrev pub IsAlikeToItself : Type 0
IsAlikeToItself = (a : Audience) (x : ContestState) → Alike a x x

-- it doesn't matter which of two is named first
abbrev pub IsAlikeBothWays : Type 0
IsAlikeBothWays = (a : Audience) (x y : ContestState) → Alike a x y → Alike a y x

-- what is alike to one that is alike to a third is alike to the third
abbrev pub IsAlikeOnward : Type 0
IsAlikeOnward = (a : Audience) (x y z : ContestState) → Alike a x y → Alike a y z → Alike a x z

-- until the thaw, alike contests show an audience the same submissions and verdicts
abbrev pub AlikeShowTheSame : Type 0
AlikeShowTheSame =
    (a : Audience) (now : ℕ) (x y : ContestState) → MayBeHeld a now x → Alike a x y → seen_submissions a now x ≡ seen_submissions a now y

-- and let it hear the same clarifications
abbrev pub AlikeTellTheSame : Type 0
AlikeTellTheSame =
    (a : Audience) (now : ℕ) (x y : ContestState) → MayBeHeld a now x → Alike a x y → seen_clarifications a x ≡ seen_clarifications a y

-- this is what the audience sees of a submission that stands and that it may see
pub record IsSeen (a : Audience) (now : ℕ) (x : ContestState) (v : SeenSubmission) : Type 0 where
  pub submission : Submission
  pub there : Has x.submissions submission
  pub sees : sees_submission a x submission ≡ true
  pub shown : v ≡ seen_submission a now x submission

-- in a valid contest all that an audience may see of submissions is listed for it, and nothing else
abbrev pub SeenIsListed : Type 0
SeenIsListed =
    (a : Audience) (now : ℕ) (x : ContestState) → is_valid x ≡ true → (v : SeenSubmission) → Has (seen_submissions a now x) v ↔ IsSeen a now x v

-- what is listed stands in strict order
abbrev pub SeenIsInOrder : Type 0
SeenIsInOrder =
    (a : Audience) (now : ℕ) (x : ContestState) → IsInOrder (λ v w. is_lt (submission_cmp x.fixed.settings v w)) (seen_submissions a now x)
    × IsInOrder (λ c d. is_lt (clarification_cmp c d)) (seen_clarifications a x)

-- in a valid contest whoever lists in strict order just what is seen has the same list
abbrev pub OneListIsSeen : Type 0
OneListIsSeen =
    (a : Audience) (now : ℕ) (x : ContestState) → is_valid x ≡ true → (vs : List SeenSubmission)
    → IsInOrder (λ v w. is_lt (submission_cmp x.fixed.settings v w)) vs → ((v : SeenSubmission) → Has vs v ↔ IsSeen a now x v) → vs ≡ seen_submissions a now x

-- this is what the audience hears of a clarification that stands and that it may hear
pub record IsHeard (a : Audience) (x : ContestState) (v : SeenClarification) : Type 0 where
  pub clarification : Clarification
  pub there : Has x.clarifications clarification
  pub hears : sees_clarification a x.fixed.settings clarification ≡ true
  pub told : v ≡ seen_clarification a x.fixed.settings clarification

-- in a valid contest all clarifications that an audience may hear are listed for it, and nothing else
abbrev pub HeardIsListed : Type 0
HeardIsListed = (a : Audience) (x : ContestState) → is_valid x ≡ true → (v : SeenClarification) → Has (seen_clarifications a x) v ↔ IsHeard a x v

-- in a valid contest whoever lists in strict order just what is heard has the same list
abbrev pub OneListIsHeard : Type 0
OneListIsHeard =
    (a : Audience) (x : ContestState) → is_valid x ≡ true → (vs : List SeenClarification)
    → IsInOrder (λ c d. is_lt (clarification_cmp c d)) vs → ((v : SeenClarification) → Has vs v ↔ IsHeard a x v) → vs ≡ seen_clarifications a x

-- two lists in strict order with the same elements are one
abbrev pub OneOrder : Type 0 → Type 0
OneOrder X =
    (before : X → X → Bool) (xs ys : List X) → IsStrict before → IsInOrder before xs → IsInOrder before ys
    → ((z : X) → Has xs z → Has ys z) → ((z : X) → Has ys z → Has xs z) → xs ≡ ys

-- the test of the settings is that of the type `Settings`
abbrev pub SettingsAreTested : Type 0
SettingsAreTested = (x : ContestState) → (has_valid_settings x ≡ true) ↔ IsValid x.fixed.settings

-- changes that may be made keep a valid contest valid
abbrev pub AddingKeepsValid : Type 0
AddingKeepsValid = (x : ContestState) (es : List Entry) → is_valid x ≡ true → are_addable x es ≡ true → is_valid (add_all x es) ≡ true

-- an imported verdict that is added may be added
abbrev pub ImportedIsAddable : Type 0
ImportedIsAddable = (x : ContestState) (p : Proposal) → verdict_addition x p ≡ Ok true → is_addable x (NewProposal p) ≡ true
