-- Contests and tables, one to one: what a row was written from is what is read of it, and a row that something is read
-- of is the one that is written of it. Each is the contract of a function of src/laws.rt.
use Rattle.std.specs.Prelude.{◌≡◌, ℕ, ◌<◌, ◌≤◌, ◌≢◌, ⊤, IfSome, List, length, Option, Some, codes}
use Rattle.std.specs.List.{AllByRecursion}
use Rattle.sqlite_value.specs.Order.{Row}
use Rattle.contest_types.specs.ClarificationText.{text_from}
use Rattle.contest_types.specs.IdText.{IsId}
use Rattle.contest_types.specs.NameText.{name_from}
use Rattle.contest_types.specs.Loads.{without_file}
use Rattle.contest_types.specs.Setup.{Setup, IsValid}
use Rattle.contest_types.specs.declared.clarification.Clarification.{Clarification}
use Rattle.contest_types.specs.declared.clarification.Reference.{Reference}
use Rattle.contest_types.specs.declared.limits.TheConstants.{LAST_MOMENT, POSTED_FILE}
use Rattle.contest_types.specs.declared.proposal.Proposal.{Proposal}
use Rattle.contest_types.specs.declared.proposal.Proposer.{Proposer}
use Rattle.contest_types.specs.declared.proposal.Proposer.TheVariants as proposer
use Rattle.contest_types.specs.declared.rejudging.Member.{Member}
use Rattle.contest_types.specs.declared.rejudging.MemberState.{MemberState}
use Rattle.contest_types.specs.declared.rejudging.MemberState.TheVariants as member
use Rattle.contest_types.specs.declared.rejudging.Rejudging.{Rejudging}
use Rattle.contest_types.specs.declared.submission.Release.{Release}
use Rattle.contest_types.specs.declared.submission.Submission.{Submission}
use Rattle.contest_store_rows.specs.Cells.{numbered}
use Rattle.contest_store_rows.specs.ListRows.{audience_number, loaded_submission_row, members_rows, rejudging_row}
use Rattle.contest_store_rows.specs.Lists.{list_in}
use Rattle.contest_store_rows.specs.References.{largest}
use Rattle.contest_store_rows.specs.Rejudgings.{rejudgings_in}
use Rattle.contest_store_rows.specs.Submissions.{submission_in}

-- what is read is what was written
abbrev pub ReadsBack : {X : Type 0} → (Setup → X → Type 0) → (Setup → ℕ → X → Row) → (Setup → ℕ → Row → Option X) → Type 0
ReadsBack {X} IsWritable row row_in = (s : Setup) → IsValid s → (n : ℕ) (x : X) → IsWritable s x → row_in s n (row s n x) ≡ Some x

-- what is written is what was read
abbrev pub WritesBack : {X : Type 0} → (Setup → ℕ → X → Row) → (Setup → ℕ → Row → Option X) → Type 0
WritesBack {X} row row_in = (s : Setup) (n : ℕ) (r : Row) (x : X) → row_in s n r ≡ Some x → r ≡ row s n x

-- its places are in the settings, its texts are of their kinds, and its time is a moment
pub record IsWritableRelease (s : Setup) (v : Release) : Type 0 where
  pub verdict : v.verdict < length s.types
  pub time : v.time ≤ LAST_MOMENT

-- no account is named as a file of verdicts is
abbrev pub IsWritableProposer : Proposer → Type 0
IsWritableProposer (proposer.Account id) = IsId id × (id ≢ codes "import")
IsWritableProposer proposer.Import = ⊤

pub record IsWritableProposal (s : Setup) (p : Proposal) : Type 0 where
  pub verdict : p.verdict < length s.types
  pub proposer : IsWritableProposer p.proposer
  pub time : p.time ≤ LAST_MOMENT

pub record IsWritableSubmission (s : Setup) (x : Submission) : Type 0 where
  pub problem : x.problem < length s.problems
  pub language : x.language < length s.languages
  pub entry_point : IfSome x.entry_point (λ name. name_from name ≡ Some name)
  pub key : IfSome x.key IsId
  pub time : x.time ≤ LAST_MOMENT
  pub file : length x.file ≤ POSTED_FILE

-- a load shows the type and the size of a submission's file in place of it
abbrev pub SubmissionsReadBack : Type 0
SubmissionsReadBack = (s : Setup) → IsValid s → (n : ℕ) (x : Submission) → IsWritableSubmission s x → submission_in s n (loaded_submission_row s n (length x.file) x) ≡ Some (without_file x)

abbrev pub SubmissionsWriteBack : Type 0
SubmissionsWriteBack = (s : Setup) (n : ℕ) (r : Row) (x : Submission) → submission_in s n r ≡ Some x → (size : ℕ) × (size ≤ POSTED_FILE) × (r ≡ loaded_submission_row s n size x)

pub record IsWritableReference (r : Reference) : Type 0 where
  pub addressee : audience_number r.addressee ≤ largest
  pub number : r.number ≤ largest

pub record IsWritableClarification (s : Setup) (c : Clarification) : Type 0 where
  pub account : IsId c.account
  pub problem : IfSome c.problem (λ p. p < length s.problems)
  pub reply : IfSome c.reply IsWritableReference
  pub text : text_from c.text ≡ Some c.text
  pub time : c.time ≤ LAST_MOMENT
  pub key : IfSome c.key IsId

abbrev pub IsWritableState : Setup → MemberState → Type 0
IsWritableState s member.Empty = ⊤
IsWritableState s (member.Proposed verdict account) = (verdict < length s.types) × IsId account
IsWritableState s (member.Ready verdict) = verdict < length s.types

pub record IsWritableRejudging (s : Setup) (r : Rejudging) : Type 0 where
  pub reason : name_from r.reason ≡ Some r.reason
  pub members : AllByRecursion (λ (m : Member). IsWritableState s m.state) r.members

-- the rejudgings are read of the rows of both tables
abbrev pub RejudgingsReadBack : Type 0
RejudgingsReadBack = (s : Setup) → IsValid s → (rs : List Rejudging) → AllByRecursion (IsWritableRejudging s) rs → rejudgings_in s (numbered rejudging_row rs) (members_rows s rs) ≡ Some rs

abbrev pub RejudgingsWriteBack : Type 0
RejudgingsWriteBack = (s : Setup) (rows members : List Row) (rs : List Rejudging) → rejudgings_in s rows members ≡ Some rs → (rows ≡ numbered rejudging_row rs) × (members ≡ members_rows s rs)

-- whole lists, counted from 1, as each of their elements is
abbrev pub ListsReadBack : Type 0 → Type 0
ListsReadBack X = (row : ℕ → X → Row) (row_in : ℕ → Row → Option X) (xs : List X) → AllByRecursion (λ x. (n : ℕ) → row_in n (row n x) ≡ Some x) xs → list_in row_in (numbered row xs) ≡ Some xs

abbrev pub ListsWriteBack : Type 0 → Type 0
ListsWriteBack X = (row : ℕ → X → Row) (row_in : ℕ → Row → Option X) → ((n : ℕ) (r : Row) (x : X) → row_in n r ≡ Some x → r ≡ row n x) → (rows : List Row) (xs : List X) → list_in row_in rows ≡ Some xs → rows ≡ numbered row xs
