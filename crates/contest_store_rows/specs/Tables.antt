-- A contest as the rows of its tables, and what a change of it makes of them.
use Rattle.std.specs.Prelude.{◌≡◌, ℕ, ◌+◌, List, [], ◌∷◌, ◌++◌, length, map, Option, slice_set}
use Rattle.sqlite.specs.Values.{or_null}
use Rattle.sqlite_value.specs.Order.{Row}
use Rattle.contest_types.specs.Setup.{Setup}
use Rattle.contest_types.specs.State.{ContestState, add, changed_at}
use Rattle.contest_types.specs.declared.entry.Entry.TheVariants.{NewSubmission, NewProposal, NewRelease, NewClarification, NewRejudging, SetRejudging, SetStart, SetThaw, SetFinalized}
use Rattle.contest_types.specs.declared.clarification.Clarification.{Clarification}
use Rattle.contest_types.specs.declared.proposal.Proposal.{Proposal}
use Rattle.contest_types.specs.declared.rejudging.Rejudging.{Rejudging}
use Rattle.contest_types.specs.declared.rejudging.RejudgingState.{RejudgingState}
use Rattle.contest_types.specs.declared.submission.Release.{Release}
use Rattle.contest_types.specs.declared.submission.Submission.{Submission}
use Rattle.contest_store_rows.specs.Cells.{number, numbered}
use Rattle.contest_store_rows.specs.FixedRows.{desk_row, contest_row, items_rows, account_row}
use Rattle.contest_store_rows.specs.ListRows.{clarification_row, first_clarification_row, member_row, members_rows, proposal_row, rejudging_row, release_row, state_number, submission_row}
use Rattle.contest_store_rows.specs.declared.versions.TheConstants.{VERSION}
use Rattle.contest_store_rows.specs.declared.versions.Version.{Version}
use Rattle.contest_store_rows.specs.declared.versions.Version.TheVariants.{First, Second}

-- the rows of each table, in the order of its key
pub record Tables : Type 0 where
  pub desk : List Row
  pub contest : List Row
  pub items : List Row
  pub accounts : List Row
  pub submissions : List Row
  pub proposals : List Row
  pub releases : List Row
  pub rejudgings : List Row
  pub members : List Row
  pub clarifications : List Row
  pub notices : List Row

-- the clarifications stand in a table of each version of the schema; that of the first is empty since the second
abbrev pub clarifications_rows : Version → Setup → List Clarification → List Row
clarifications_rows First s clarifications = numbered (first_clarification_row s) clarifications
clarifications_rows Second s clarifications = []

abbrev pub notices_rows : Version → Setup → List Clarification → List Row
notices_rows First s clarifications = []
notices_rows Second s clarifications = numbered (clarification_row s) clarifications

abbrev pub rows_in_version : Version → ContestState → Tables
rows_in_version version x = record {
  desk = desk_row version ∷ [];
  contest = contest_row x.fixed ∷ [];
  items = items_rows x.fixed.settings;
  accounts = map (account_row x.fixed.settings) x.fixed.accounts;
  submissions = numbered (submission_row x.fixed.settings) x.submissions;
  proposals = numbered (proposal_row x.fixed.settings) x.proposals;
  releases = numbered (release_row x.fixed.settings) x.releases;
  rejudgings = numbered rejudging_row x.rejudgings;
  members = members_rows x.fixed.settings x.rejudgings;
  clarifications = clarifications_rows version x.fixed.settings x.clarifications;
  notices = notices_rows version x.fixed.settings x.clarifications;
}

-- its rows in the version that is made today
abbrev pub rows_of : ContestState → Tables
rows_of = rows_in_version VERSION

-- one more row at the end of one table
abbrev pub SubmissionIsOneRow : Type 0
SubmissionIsOneRow = (x : ContestState) (s : Submission) → rows_of (add x (NewSubmission s)) ≡ record (rows_of x) { submissions = (rows_of x).submissions ++ submission_row x.fixed.settings (length x.submissions + 1) s ∷ [] }

abbrev pub ProposalIsOneRow : Type 0
ProposalIsOneRow = (x : ContestState) (p : Proposal) → rows_of (add x (NewProposal p)) ≡ record (rows_of x) { proposals = (rows_of x).proposals ++ proposal_row x.fixed.settings (length x.proposals + 1) p ∷ [] }

abbrev pub ReleaseIsOneRow : Type 0
ReleaseIsOneRow = (x : ContestState) (v : Release) → rows_of (add x (NewRelease v)) ≡ record (rows_of x) { releases = (rows_of x).releases ++ release_row x.fixed.settings (length x.releases + 1) v ∷ [] }

abbrev pub ClarificationIsOneRow : Type 0
ClarificationIsOneRow = (x : ContestState) (c : Clarification) → rows_of (add x (NewClarification c)) ≡ record (rows_of x) { notices = (rows_of x).notices ++ clarification_row x.fixed.settings (length x.clarifications + 1) c ∷ [] }

-- one, and one for each of its members
abbrev pub RejudgingIsItsRows : Type 0
RejudgingIsItsRows = (x : ContestState) (r : Rejudging) → rows_of (add x (NewRejudging r)) ≡ record (rows_of x) {
  rejudgings = (rows_of x).rejudgings ++ rejudging_row (length x.rejudgings + 1) r ∷ [];
  members = (rows_of x).members ++ numbered (member_row x.fixed.settings (length x.rejudgings + 1)) r.members;
}

-- one cell of the row with its number
abbrev pub StateIsOneCell : Type 0
StateIsOneCell = (x : ContestState) (n : ℕ) (state : RejudgingState) → rows_of (add x (SetRejudging n state)) ≡ record (rows_of x) { rejudgings = changed_at 1 n (λ cells. slice_set cells 2 (number (state_number state))) (rows_of x).rejudgings }

-- one cell of the only row of its table
abbrev pub StartIsOneCell : Type 0
StartIsOneCell = (x : ContestState) (start : Option ℕ) → rows_of (add x (SetStart start)) ≡ record (rows_of x) { contest = slice_set (contest_row x.fixed) 10 (or_null number start) ∷ [] }

abbrev pub ThawIsOneCell : Type 0
ThawIsOneCell = (x : ContestState) (thaw : ℕ) → rows_of (add x (SetThaw thaw)) ≡ record (rows_of x) { contest = slice_set (contest_row x.fixed) 11 (number thaw) ∷ [] }

abbrev pub FinalizedIsOneCell : Type 0
FinalizedIsOneCell = (x : ContestState) (finalized : ℕ) → rows_of (add x (SetFinalized finalized)) ≡ record (rows_of x) { contest = slice_set (contest_row x.fixed) 12 (number finalized) ∷ [] }
