-- Rejudgings, in the subject's words: applied whole or not at all, and unseen until then. Each law is the contract of a
-- function of src/laws/rejudgings.rt.
use Rattle.std.specs.Prelude.{◌≡◌, ◌⊎◌, ℕ, List, [], ◌++◌, length, Some}
use Rattle.std.specs.List.{filter_map}
use Rattle.contest_types.specs.Order.{Has}
use Rattle.contest_types.specs.State.{ContestState, add_all, changed_at}
use Rattle.contest_types.specs.declared.audience.Audience.{Audience}
use Rattle.contest_types.specs.declared.rejudging.Rejudging.{Rejudging}
use Rattle.contest_types.specs.declared.rejudging.RejudgingState.TheVariants.{Applied}
use Rattle.contest_types.specs.declared.submission.Release.{Release}
use Rattle.contest_rules.specs.Rejudging.{release_of}
use Rattle.contest_view.specs.Rejudgings.{named_rejudging}
use Rattle.contest_postings.specs.declared.rejudging.RejudgingStep.TheVariants.{Judge, Apply, Cancel}
use Rattle.contest_operations.specs.Commands.{post_outcome}
use Rattle.contest_operations.specs.Paths.{jury_piece}
use Rattle.contest_operations.specs.declared.command.Posted.{Posted}
use Rattle.contest_operations.specs.declared.command.Posted.TheVariants.{Opening, Rejudging as OfRejudging}
use Rattle.contest_desk.specs.Unseen.{AreUnseen, IsUnseenRelease}

-- the next releases of the members of a rejudging
abbrev pub member_releases : ContestState → (now : ℕ) → Rejudging → List Release
member_releases x now r = filter_map (release_of x.releases now) r.members

-- the rejudging with this number is applied: one release for each of its members is added, and its state is set
pub record IsApplied (now : ℕ) (id : List ℕ) (x y : ContestState) : Type 0 where
  pub number : ℕ
  pub rejudging : Rejudging
  pub named : named_rejudging id x.rejudgings ≡ Some (number, rejudging)
  pub releases : y.releases ≡ x.releases ++ member_releases x now rejudging
  pub each : length (member_releases x now rejudging) ≡ length rejudging.members
  pub states : y.rejudgings ≡ changed_at 1 number (λ r. record r { state = Applied }) x.rejudgings

-- one that is to be applied is applied whole, in the one step, or nothing is added
abbrev pub AppliedWhole : Type 0
AppliedWhole =
    (now : ℕ) (path : List ℕ) (x : ContestState)
    → ((post_outcome now (OfRejudging path Apply) x).entries ≡ []) ⊎ IsApplied now (jury_piece path) x (add_all x (post_outcome now (OfRejudging path Apply) x).entries)

-- a rejudging is opened, judged or cancelled
abbrev pub AppliesNone : Posted → Type 0
AppliesNone (Opening w) = Unit {0}
AppliesNone (OfRejudging path (Judge v)) = Unit {0}
AppliesNone (OfRejudging path Cancel) = Unit {0}
AppliesNone _ = ⊥

-- no audience can notice that
abbrev pub UnappliedIsUnseen : Type 0
UnappliedIsUnseen = (a : Audience) (now : ℕ) (posted : Posted) (x : ContestState) → AppliesNone posted → AreUnseen a x (post_outcome now posted x).entries

-- nor that one is applied, if it can't notice any of its releases: each is on another team's submission, which is frozen,
-- or whose team is hidden
abbrev pub AppliedIsUnseen : Type 0
AppliedIsUnseen =
    (a : Audience) (now : ℕ) (path : List ℕ) (x : ContestState) (number : ℕ) (r : Rejudging) → named_rejudging (jury_piece path) x.rejudgings ≡ Some (number, r)
    → ((v : Release) → Has (member_releases x now r) v → IsUnseenRelease a x v) → AreUnseen a x (post_outcome now (OfRejudging path Apply) x).entries
