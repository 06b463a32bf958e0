-- What the types of rows keep true of their texts and times.
use Rattle.std.specs.Prelude.{◌≡◌, ◌≤◌, ℕ, ⊤, List, length, IfSome, Some}
use Rattle.std.specs.List.{AllByRecursion}
use Rattle.contest_types.specs.ClarificationText.{text_from}
use Rattle.contest_types.specs.IdText.{IsId}
use Rattle.contest_types.specs.NameText.{name_from}
use Rattle.contest_types.specs.declared.entry.Entry.{Entry}
use Rattle.contest_types.specs.declared.entry.Entry.TheVariants.{NewSubmission, NewProposal, NewRelease, NewClarification, NewRejudging, SetMember, SetRejudging, SetStart, SetThaw, SetFinalized, SetDuration, SetTeamName, SetDigest, NewType, NewLanguage, NewProblem, NewGroup, NewTeam, NewAccount}
use Rattle.contest_types.specs.declared.account.Account.{Account}
use Rattle.contest_types.specs.declared.clarification.Clarification.{Clarification}
use Rattle.contest_types.specs.declared.limits.TheConstants.{LAST_MOMENT}
use Rattle.contest_types.specs.declared.proposal.Proposal.{Proposal}
use Rattle.contest_types.specs.declared.proposal.Proposer.{Proposer}
use Rattle.contest_types.specs.declared.proposal.Proposer.TheVariants as proposer
use Rattle.contest_types.specs.declared.rejudging.Member.{Member}
use Rattle.contest_types.specs.declared.rejudging.MemberState.{MemberState}
use Rattle.contest_types.specs.declared.rejudging.MemberState.TheVariants as member
use Rattle.contest_types.specs.declared.rejudging.Rejudging.{Rejudging}
use Rattle.contest_types.specs.State.{ContestState}
use Rattle.contest_types.specs.declared.submission.Release.{Release}
use Rattle.contest_types.specs.declared.submission.Submission.{Submission}
use Rattle.contest_store_reading.specs.Laws.{IsWritableItem, IsWritableMarks, IsWritableProblem, IsWritableSetup}

abbrev pub IsName : List ℕ → Type 0
IsName text = name_from text ≡ Some text

abbrev pub IsMoment : ℕ → Type 0
IsMoment time = time ≤ LAST_MOMENT

pub record IsOfKindsSubmission (s : Submission) : Type 0 where
  pub entry_point : IfSome s.entry_point IsName
  pub key : IfSome s.key IsId
  pub time : IsMoment s.time

abbrev pub IsProposerId : Proposer → Type 0
IsProposerId (proposer.Account id) = IsId id
IsProposerId proposer.Import = ⊤

pub record IsOfKindsProposal (p : Proposal) : Type 0 where
  pub proposer : IsProposerId p.proposer
  pub time : IsMoment p.time

pub record IsOfKindsClarification (c : Clarification) : Type 0 where
  pub account : IsId c.account
  pub text : text_from c.text ≡ Some c.text
  pub time : IsMoment c.time
  pub key : IfSome c.key IsId

abbrev pub HasIdIfAny : MemberState → Type 0
HasIdIfAny member.Empty = ⊤
HasIdIfAny (member.Proposed verdict account) = IsId account
HasIdIfAny (member.Ready verdict) = ⊤

pub record IsOfKindsRejudging (r : Rejudging) : Type 0 where
  pub reason : IsName r.reason
  pub members : AllByRecursion (λ (m : Member). HasIdIfAny m.state) r.members

pub record IsOfKindsAccount (a : Account) : Type 0 where
  pub id : IsId a.id
  pub digest : length a.digest ≡ 32

abbrev pub IsOfKinds : Entry → Type 0
IsOfKinds (NewSubmission s) = IsOfKindsSubmission s
IsOfKinds (NewProposal p) = IsOfKindsProposal p
IsOfKinds (NewRelease v) = IsMoment v.time
IsOfKinds (NewClarification c) = IsOfKindsClarification c
IsOfKinds (NewRejudging r) = IsOfKindsRejudging r
IsOfKinds (SetMember n place state) = HasIdIfAny state
IsOfKinds (SetRejudging n state) = ⊤
IsOfKinds (SetStart start) = IfSome start IsMoment
IsOfKinds (SetThaw thaw) = IsMoment thaw
IsOfKinds (SetFinalized finalized) = IsMoment finalized
IsOfKinds (SetDuration duration freeze) = ⊤
IsOfKinds (SetTeamName team name) = IsName name
IsOfKinds (SetDigest id digest) = IsId id × (length digest ≡ 32)
IsOfKinds (NewType t) = IsWritableItem t.id t.name
IsOfKinds (NewLanguage l) = IsWritableItem l.id l.name
IsOfKinds (NewProblem p) = IsWritableProblem p
IsOfKinds (NewGroup g) = IsWritableItem g.id g.name
IsOfKinds (NewTeam t) = IsWritableItem t.id t.name
IsOfKinds (NewAccount a) = IsOfKindsAccount a

-- and of all rows of a contest
pub record AreOfKinds (x : ContestState) : Type 0 where
  pub settings : IsWritableSetup x.fixed.settings
  pub accounts : AllByRecursion IsOfKindsAccount x.fixed.accounts
  pub marks : IsWritableMarks x.fixed.marks
  pub submissions : AllByRecursion IsOfKindsSubmission x.submissions
  pub proposals : AllByRecursion IsOfKindsProposal x.proposals
  pub releases : AllByRecursion (λ (v : Release). IsMoment v.time) x.releases
  pub clarifications : AllByRecursion IsOfKindsClarification x.clarifications
  pub rejudgings : AllByRecursion IsOfKindsRejudging x.rejudgings
