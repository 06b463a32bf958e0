-- How verdicts come to be released, in the subject's words (DOMjudge manual, "Judging" and "Rejudging"; verification by a
-- second account is own). Each law is the contract of a function of src/laws.rt.
use Rattle.std.specs.Prelude.{◌≡◌, ◌≤◌, ℕ, true, false, List, Some, Ok}
use Rattle.std.specs.Str.{bytes_eq}
use Rattle.contest_types.specs.Order.{Has}
use Rattle.contest_types.specs.State.{ContestState}
use Rattle.contest_types.specs.Valid.{is_valid}
use Rattle.contest_types.specs.declared.entry.Entry.TheVariants.{NewRelease, SetMember}
use Rattle.contest_types.specs.declared.proposal.Proposal.{Proposal}
use Rattle.contest_types.specs.declared.rejudging.MemberState.{MemberState}
use Rattle.contest_types.specs.declared.rejudging.MemberState.TheVariants.{Empty, Proposed, Ready}
use Rattle.contest_types.specs.declared.rejudging.Rejudging.{Rejudging}
use Rattle.contest_types.specs.declared.submission.Release.{Release}
use Rattle.contest_rules.specs.Rejudging.{apply_on, state_at}
use Rattle.contest_rules.specs.Verifying.{is_proposer, last_proposal}
use Rattle.contest_postings.specs.declared.rejudging.RejudgingStep.TheVariants.{Apply, Judge}
use Rattle.contest_requests.specs.declared.jury_verdict.JuryVerdict.{JuryVerdict}
use Rattle.contest_operations.specs.Step.{wish_or_reply}
use Rattle.contest_operations.specs.declared.command.Posted.{Posted}
use Rattle.contest_operations.specs.declared.command.Posted.TheVariants.{Verification, Rejudging as OfRejudging}
use Rattle.contest_operations.specs.declared.wish.Wish.TheVariants.{Do}
use Rattle.contest_desk.specs.Items.{item_entries}
use Rattle.contest_desk.specs.declared.item.Item.{Item}
use Rattle.contest_desk.specs.declared.item.Item.TheVariants as item
use Rattle.contest_laws.specs.Sources.{IsNamed}

-- a request that reaches its command asks for this; an import asks for nothing
abbrev pub Asks : ContestState → Item → Posted → Type 0
Asks x (item.Request i) posted = wish_or_reply x.fixed i.credential i.request ≡ Ok (Do posted)
Asks x (item.Import i) posted = ⊥

-- a rejudging is to be applied and may be, and this is one of its releases
pub record IsApplied (x : ContestState) (i : Item) (v : Release) : Type 0 where
  pub path : List ℕ
  pub asked : Asks x i (OfRejudging path Apply)
  pub number : ℕ
  pub rejudging : Rejudging
  pub named : IsNamed x path number rejudging
  pub now : ℕ
  pub releases : List Release
  pub applied : apply_on x.releases now rejudging ≡ Ok releases
  pub there : Has releases v

-- a release of a second or later round, which changes a verdict that is out, comes of a rejudging that is applied
abbrev pub OnlyRejudgingsRevise : Type 0
OnlyRejudgingsRevise = (x : ContestState) (i : Item) (v : Release) → Has (item_entries x i) (NewRelease v) → 2 ≤ v.round → IsApplied x i v

-- a judge verifies what was proposed last for the submission by another account, or by a file of verdicts: its type
pub record IsVerified (x : ContestState) (i : Item) (v : Release) : Type 0 where
  pub verdict : JuryVerdict
  pub asked : Asks x i (Verification verdict)
  pub proposal : Proposal
  pub last : last_proposal v.team v.number x.proposals ≡ Some proposal
  pub other : is_proposer verdict.account proposal.proposer ≡ false
  pub same : proposal.verdict ≡ v.verdict

-- where verification is asked for, the first release on a submission comes of that alone
abbrev pub TwoJudgesRelease : Type 0
TwoJudgesRelease =
    (x : ContestState) (i : Item) (v : Release) → is_valid x ≡ true → x.fixed.settings.head.verification ≡ true → Has (item_entries x i) (NewRelease v) → v.round ≡ 1 → IsVerified x i v

-- a verdict was proposed by another account, or stood already
abbrev pub WasSettled : (account : List ℕ) → (verdict : ℕ) → MemberState → Type 0
WasSettled account verdict Empty = ⊥
WasSettled account verdict (Proposed proposed by) = (proposed ≡ verdict) × (bytes_eq by account ≡ false)
WasSettled account verdict (Ready ready) = ready ≡ verdict

-- a judge names a verdict for a member of an open rejudging that was settled so
pub record IsSettled (x : ContestState) (i : Item) (number place verdict : ℕ) : Type 0 where
  pub path : List ℕ
  pub judged : JuryVerdict
  pub asked : Asks x i (OfRejudging path (Judge judged))
  pub rejudging : Rejudging
  pub named : IsNamed x path number rejudging
  pub settled : WasSettled judged.account verdict (state_at place rejudging.members)

-- and a member of a rejudging gets a verdict that stands of that alone
abbrev pub TwoJudgesRejudge : Type 0
TwoJudgesRejudge =
    (x : ContestState) (i : Item) (number place verdict : ℕ) → x.fixed.settings.head.verification ≡ true → Has (item_entries x i) (SetMember number place (Ready verdict)) → IsSettled x i number place verdict
