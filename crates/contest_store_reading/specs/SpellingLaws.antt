-- A contest and what its tables spell, one to one. Each is the contract of a function of src/laws.rt.
use Rattle.std.specs.Prelude.{◌≡◌, ◌≤◌, ◌+◌, ℕ, ⊤, List, [], ◌∷◌, length, Some}
use Rattle.std.specs.List.{AllByRecursion}
use Rattle.sqlite_value.specs.Order.{Row}
use Rattle.contest_types.specs.Loads.{loaded_submissions}
use Rattle.contest_types.specs.Setup.{Setup, IsValid}
use Rattle.contest_types.specs.State.{ContestState}
use Rattle.contest_types.specs.declared.clarification.Clarification.{Clarification}
use Rattle.contest_types.specs.declared.limits.TheConstants.{POSTED_FILE}
use Rattle.contest_types.specs.declared.submission.Submission.{Submission}
use Rattle.contest_store_rows.specs.Cells.{numbered}
use Rattle.contest_store_rows.specs.FixedRows.{desk_row}
use Rattle.contest_store_rows.specs.Laws.{IsWritableClarification, IsWritableProposal, IsWritableRejudging, IsWritableRelease, IsWritableSubmission}
use Rattle.contest_store_rows.specs.ListRows.{clarification_row, loaded_submission_row, members_rows, proposal_row, rejudging_row, release_row}
use Rattle.contest_store_rows.specs.Tables.{Tables, rows_of}
use Rattle.contest_store_rows.specs.declared.versions.Version.{Version}
use Rattle.contest_store_rows.specs.declared.versions.Version.TheVariants.{First, Second}
use Rattle.contest_store_reading.specs.Laws.{IsWritableFixed, AreRowsOf}
use Rattle.contest_store_reading.specs.Spelling.{lists_in, lists_in_version}

-- the texts, times and places of a contest are of their kinds
pub record IsWritable (x : ContestState) : Type 0 where
  pub valid : IsValid x.fixed.settings
  pub fixed : IsWritableFixed x.fixed
  pub submissions : AllByRecursion (IsWritableSubmission x.fixed.settings) x.submissions
  pub proposals : AllByRecursion (IsWritableProposal x.fixed.settings) x.proposals
  pub releases : AllByRecursion (IsWritableRelease x.fixed.settings) x.releases
  pub clarifications : AllByRecursion (IsWritableClarification x.fixed.settings) x.clarifications
  pub rejudgings : AllByRecursion (IsWritableRejudging x.fixed.settings) x.rejudgings

-- what a load shows of a contest's rows: of a file its type and its size
abbrev pub loaded_rows_of : ContestState → Tables
loaded_rows_of x = record (rows_of x) { submissions = numbered (λ n s. loaded_submission_row x.fixed.settings n (length s.file) s) x.submissions }

abbrev pub unfiled : ContestState → ContestState
unfiled x = record x { submissions = loaded_submissions x }

-- what is loaded of a contest's rows is the contest, without files
abbrev pub ContestsReadBack : Type 0
ContestsReadBack = (x : ContestState) → IsWritable x → lists_in (loaded_rows_of x) ≡ Some (unfiled x)

-- what a load shows of the rows that the first schema has of it: its clarifications as today's schema has them
abbrev pub first_loaded_rows_of : ContestState → Tables
first_loaded_rows_of x = record (loaded_rows_of x) { desk = desk_row First ∷ []; clarifications = (loaded_rows_of x).notices; notices = [] }

abbrev pub FirstContestsReadBack : Type 0
FirstContestsReadBack = (x : ContestState) → IsWritable x → lists_in_version First (first_loaded_rows_of x) ≡ Some (unfiled x)

-- each row is its submission's, counted from a number, with the size of some file
abbrev pub AreSubmissionRows : Setup → ℕ → List Submission → List Row → Type 0
AreSubmissionRows s n [] [] = ⊤
AreSubmissionRows s n (x ∷ xs) (r ∷ rows) = ((size : ℕ) × (size ≤ POSTED_FILE) × (r ≡ loaded_submission_row s n size x)) × AreSubmissionRows s (n + 1) xs rows
AreSubmissionRows s n _ _ = ⊥

-- rows of clarifications, as they are loaded, stand in the table of a version of the schema
abbrev pub AreClarificationRows : Version → Setup → List Clarification → (first today : List Row) → Type 0
AreClarificationRows First s cs first today = (first ≡ numbered (clarification_row s) cs) × (today ≡ [])
AreClarificationRows Second s cs first today = (first ≡ []) × (today ≡ numbered (clarification_row s) cs)

-- rows that a contest is read of are its rows
pub record AreRows (version : Version) (x : ContestState) (t : Tables) : Type 0 where
  pub fixed : AreRowsOf version x.fixed t.desk t.contest t.items t.accounts
  pub submissions : AreSubmissionRows x.fixed.settings 1 x.submissions t.submissions
  pub proposals : t.proposals ≡ numbered (proposal_row x.fixed.settings) x.proposals
  pub releases : t.releases ≡ numbered (release_row x.fixed.settings) x.releases
  pub clarifications : AreClarificationRows version x.fixed.settings x.clarifications t.clarifications t.notices
  pub rejudgings : t.rejudgings ≡ numbered rejudging_row x.rejudgings
  pub members : t.members ≡ members_rows x.fixed.settings x.rejudgings

abbrev pub ContestsWriteBack : Type 0
ContestsWriteBack = (version : Version) (t : Tables) (x : ContestState) → lists_in_version version t ≡ Some x → AreRows version x t
