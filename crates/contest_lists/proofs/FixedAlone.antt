-- A change of the fixed part changes nothing else.
use Rattle.std.proofs.Common.{◌≡◌, ℕ, List, refl}
use Rattle.contest_types.specs.State.{ContestState, FixedPart, add}
use Rattle.contest_types.specs.declared.clarification.Clarification.{Clarification}
use Rattle.contest_types.specs.declared.entry.Entry.{Entry}
use Rattle.contest_types.specs.declared.entry.Entry.TheVariants.{NewSubmission, NewProposal, NewRelease, NewClarification, NewRejudging, SetMember, SetRejudging}
use Rattle.contest_types.specs.declared.proposal.Proposal.{Proposal}
use Rattle.contest_types.specs.declared.rejudging.MemberState.{MemberState}
use Rattle.contest_types.specs.declared.rejudging.Rejudging.{Rejudging}
use Rattle.contest_types.specs.declared.rejudging.RejudgingState.{RejudgingState}
use Rattle.contest_types.specs.declared.submission.Release.{Release}
use Rattle.contest_types.specs.declared.submission.Submission.{Submission}
use Rattle.contest_lists.specs.Lists.{filed, unfiled}

-- a change of none of the rows
pub record OfNoRow (e : Entry) : Type 0 where
  pub submission : (s : Submission) → e ≡ NewSubmission s → ⊥
  pub proposal : (p : Proposal) → e ≡ NewProposal p → ⊥
  pub release : (v : Release) → e ≡ NewRelease v → ⊥
  pub clarification : (c : Clarification) → e ≡ NewClarification c → ⊥
  pub rejudging : (r : Rejudging) → e ≡ NewRejudging r → ⊥
  pub member : (n place : ℕ) (state : MemberState) → e ≡ SetMember n place state → ⊥
  pub state : (n : ℕ) (state : RejudgingState) → e ≡ SetRejudging n state → ⊥

fixed_alone : (x : ContestState) (e : Entry) → OfNoRow e → record x { fixed = (add x e).fixed } ≡ add x (unfiled e)
fixed_alone x (NewSubmission s) other = absurd (other.submission s refl)
fixed_alone x (NewProposal p) other = absurd (other.proposal p refl)
fixed_alone x (NewRelease v) other = absurd (other.release v refl)
fixed_alone x (NewClarification c) other = absurd (other.clarification c refl)
fixed_alone x (NewRejudging r) other = absurd (other.rejudging r refl)
fixed_alone x (SetMember n place state) other = absurd (other.member n place state refl)
fixed_alone x (SetRejudging n state) other = absurd (other.state n state refl)
fixed_alone x e other = refl

-- it changes the fixed part, and nothing else
pub fixed_changed : (x : ContestState) (e : Entry) (fixed : FixedPart) → OfNoRow e → fixed ≡ (add x e).fixed → record x { fixed = fixed } ≡ add x (unfiled e)
fixed_changed x e fixed other is = rw is (fixed_alone x e other)

-- whatever submissions stand
pub fixed_whoever : (x : ContestState) (submissions : List Submission) (e : Entry) → (add (filed submissions x) e).fixed ≡ (add x e).fixed
fixed_whoever x submissions (NewSubmission s) = refl
fixed_whoever x submissions e = refl
