-- What each kind of change does to the tables of a sound contest, one row at a time. Each is the contract of a
-- function of src/laws.rt.
use Rattle.std.specs.Prelude.{◌≡◌, ◌+◌, ℕ, true, List, [], ◌∷◌, ◌++◌, length, Option, Some}
use Rattle.std.specs.List.{AllByRecursion}
use Rattle.std.specs.Option.{option_map}
use Rattle.sqlite.specs.Values.{or_null}
use Rattle.sqlite_value.specs.declared.value.Value.TheVariants.{Text}
use Rattle.sqlite_value.specs.Order.{Row}
use Rattle.contest_types.specs.Addable.{is_addable}
use Rattle.contest_types.specs.SettingsNames.{type_id_at}
use Rattle.contest_types.specs.Setup.{Setup}
use Rattle.contest_types.specs.State.{ContestState, add, with_marks}
use Rattle.contest_types.specs.declared.entry.Entry.{Entry}
use Rattle.contest_types.specs.declared.entry.Entry.TheVariants.{NewSubmission, NewProposal, NewRelease, NewClarification, NewRejudging, SetMember, SetRejudging, SetDuration, SetTeamName, SetDigest, NewType, NewLanguage, NewProblem, NewGroup, NewTeam, NewAccount}
use Rattle.contest_types.specs.declared.account.Account.{Account}
use Rattle.contest_types.specs.declared.clarification.Clarification.{Clarification}
use Rattle.contest_types.specs.declared.marks.Marks.{Marks}
use Rattle.contest_types.specs.declared.objects.Group.{Group}
use Rattle.contest_types.specs.declared.objects.JudgementType.{JudgementType}
use Rattle.contest_types.specs.declared.objects.Language.{Language}
use Rattle.contest_types.specs.declared.objects.Problem.{Problem}
use Rattle.contest_types.specs.declared.objects.Team.{Team}
use Rattle.contest_types.specs.declared.proposal.Proposal.{Proposal}
use Rattle.contest_types.specs.declared.rejudging.Member.{Member}
use Rattle.contest_types.specs.declared.rejudging.MemberState.{MemberState}
use Rattle.contest_types.specs.declared.rejudging.Rejudging.{Rejudging}
use Rattle.contest_types.specs.declared.rejudging.RejudgingState.{RejudgingState}
use Rattle.contest_types.specs.declared.submission.Release.{Release}
use Rattle.contest_types.specs.declared.submission.Submission.{Submission}
use Rattle.contest_store_rows.specs.Cells.{number, flag}
use Rattle.contest_store_rows.specs.FixedRows.{account_row, group_row, language_row, problem_row, team_row, type_row}
use Rattle.contest_store_rows.specs.ListRows.{clarification_row, is_ready, member_account, member_row, member_type, proposal_row, rejudging_row, release_row, state_number, submission_row}
use Rattle.contest_store_reading.specs.AccountRows.{digest_row}
use Rattle.contest_store_reading.specs.Heads.{duration_row, marks_row}
use Rattle.contest_store_reading.specs.Items.{team_name_row}
use Rattle.contest_store_tables.specs.Schema.{form_of}
use Rattle.contest_store_tables.specs.Steps.{Rises}
use Rattle.contest_store_tables.specs.Tables.{TableRows}
use Rattle.contest_store_tables.specs.declared.row_change.RowChange.TheVariants as change
use Rattle.contest_store_tables.specs.declared.table_name.TableName.{TableName}
use Rattle.contest_store_tables.specs.declared.table_name.TableName.TheVariants.{Items, Accounts, Submissions, Proposals, Releases, Rejudgings, Members, Cells, Notices}
use Rattle.contest_store_changes.specs.ContestTables.{listed_in, rows_with, table_rows, valid_contest_in, valid_listed_in}
use Rattle.contest_store_changes.specs.Kinds.{AreOfKinds, IsOfKinds}
use Rattle.contest_store_changes.specs.OneRow.{IsOneRow, IsOneChange}
use Rattle.contest_store_changes.specs.Sound.{IsSound}

-- what may be added to a sound contest leaves a sound one
abbrev pub AdditionsStaySound : Type 0
AdditionsStaySound = (x : ContestState) (e : Entry) → IsSound x → is_addable x e ≡ true → IsOfKinds e → IsSound (add x e)

-- a sound contest is the valid one that its rows are
abbrev pub SoundContestsReadBack : Type 0
SoundContestsReadBack = (x : ContestState) → IsSound x → valid_contest_in (table_rows x) ≡ Some x

-- a row has a cell for each column of its table
abbrev pub IsWide : TableName → Row → Type 0
IsWide name row = length row ≡ length (form_of name).columns

-- the rows that a contest is read of are its own, whatever the cells: a load shows no cell of a submission's row beyond those of its
-- columns, so it has to have none
abbrev pub RowsAreTheirContests : Type 0
RowsAreTheirContests =
    (rows : TableRows) (x : ContestState) → AllByRecursion (IsWide Submissions) (rows Submissions) → listed_in rows ≡ Some x → rows_with (rows Cells) x ≡ rows

-- a valid contest of their kinds whose lists rows are is sound, and these are its rows, whatever the cells
abbrev pub ListedContestsAreSound : Type 0
ListedContestsAreSound =
    (rows : TableRows) (x : ContestState) → Rises Accounts (rows Accounts) → AllByRecursion (IsWide Submissions) (rows Submissions) → AreOfKinds x → valid_listed_in rows ≡ Some x →
    IsSound x × (rows_with (rows Cells) x ≡ rows)

-- and where the cells are its own, all rows are
abbrev pub ValidContestsAreSound : Type 0
ValidContestsAreSound =
    (rows : TableRows) (x : ContestState) → Rises Accounts (rows Accounts) → AllByRecursion (IsWide Submissions) (rows Submissions) → AreOfKinds x → valid_contest_in rows ≡ Some x →
    IsSound x × (table_rows x ≡ rows)

-- one more row of each list
abbrev pub SubmissionIsAdded : Type 0
SubmissionIsAdded = (x : ContestState) (s : Submission) → IsSound x → IsOneRow Submissions (submission_row x.fixed.settings (length x.submissions + 1) s) x (add x (NewSubmission s))

abbrev pub ProposalIsAdded : Type 0
ProposalIsAdded = (x : ContestState) (p : Proposal) → IsSound x → IsOneRow Proposals (proposal_row x.fixed.settings (length x.proposals + 1) p) x (add x (NewProposal p))

abbrev pub ReleaseIsAdded : Type 0
ReleaseIsAdded = (x : ContestState) (v : Release) → IsSound x → IsOneRow Releases (release_row x.fixed.settings (length x.releases + 1) v) x (add x (NewRelease v))

abbrev pub ClarificationIsAdded : Type 0
ClarificationIsAdded = (x : ContestState) (c : Clarification) → IsSound x → IsOneRow Notices (clarification_row x.fixed.settings (length x.clarifications + 1) c) x (add x (NewClarification c))

-- a rejudging with so many of its members
abbrev pub with_members : Rejudging → List Member → Rejudging
with_members r members = record r { members = members }

-- a rejudging comes without its members first, and then one after the other
abbrev pub RejudgingIsAdded : Type 0
RejudgingIsAdded = (x : ContestState) (r : Rejudging) → IsSound x → IsOneRow Rejudgings (rejudging_row (length x.rejudgings + 1) r) x (add x (NewRejudging (with_members r [])))

abbrev pub MemberIsAdded : Type 0
MemberIsAdded = (x : ContestState) (r : Rejudging) (members : List Member) (m : Member) → IsSound x →
    IsOneRow Members (member_row x.fixed.settings (length x.rejudgings + 1) (length members + 1) m) (add x (NewRejudging (with_members r members))) (add x (NewRejudging (with_members r (members ++ m ∷ []))))

-- an account stands at the place that its id has
abbrev pub AccountIsAdded : Type 0
AccountIsAdded = (x : ContestState) (a : Account) → IsSound x → is_addable x (NewAccount a) ≡ true → IsOneRow Accounts (account_row x.fixed.settings a) x (add x (NewAccount a))

-- a setting is one more row of its kind, and no other row names what comes after what stands
abbrev pub TypeIsAdded : Type 0
TypeIsAdded = (x : ContestState) (t : JudgementType) → IsSound x → IsOneRow Items (type_row (length x.fixed.settings.types + 1) t) x (add x (NewType t))

abbrev pub LanguageIsAdded : Type 0
LanguageIsAdded = (x : ContestState) (l : Language) → IsSound x → IsOneRow Items (language_row (length x.fixed.settings.languages + 1) l) x (add x (NewLanguage l))

abbrev pub GroupIsAdded : Type 0
GroupIsAdded = (x : ContestState) (g : Group) → IsSound x → IsOneRow Items (group_row (length x.fixed.settings.groups + 1) g) x (add x (NewGroup g))

abbrev pub ProblemIsAdded : Type 0
ProblemIsAdded = (x : ContestState) (p : Problem) → IsSound x → IsOneRow Items (problem_row (length x.fixed.settings.problems + 1) p) x (add x (NewProblem p))

abbrev pub TeamIsAdded : Type 0
TeamIsAdded = (x : ContestState) (t : Team) → IsSound x → IsOneRow Items (team_row x.fixed.settings (length x.fixed.settings.teams + 1) t) x (add x (NewTeam t))

-- the marks
abbrev pub MarksAreChanged : Type 0
MarksAreChanged = (x : ContestState) (m : Marks) → IsOneChange change.Marks (marks_row m) x (with_marks x m)

-- the duration, with the freeze duration
abbrev pub DurationIsChanged : Type 0
DurationIsChanged = (x : ContestState) (duration : ℕ) (freeze : Option ℕ) → IsOneChange change.Duration (duration_row duration freeze) x (add x (SetDuration duration freeze))

-- the name of a team, whose row has the number after its place
abbrev pub TeamNameIsChanged : Type 0
TeamNameIsChanged = (x : ContestState) (team : ℕ) (name : List ℕ) → IsOneChange change.ItemName (team_name_row (team + 1) name) x (add x (SetTeamName team name))

-- the token of an account, which stands where it stood
abbrev pub DigestIsChanged : Type 0
DigestIsChanged = (x : ContestState) (id digest : List ℕ) → IsSound x → IsOneChange change.Digest (digest_row id digest) x (add x (SetDigest id digest))

-- the state of a rejudging, after its number
abbrev pub state_given : (n : ℕ) → RejudgingState → Row
state_given n state = number n ∷ number (state_number state) ∷ []

abbrev pub RejudgingIsChanged : Type 0
RejudgingIsChanged = (x : ContestState) (n : ℕ) (state : RejudgingState) → IsOneChange change.RejudgingState (state_given n state) x (add x (SetRejudging n state))

-- the state of a member, after the number of its rejudging and its place in that, from 1
abbrev pub member_state_given : Setup → (n place : ℕ) → MemberState → Row
member_state_given s n place state =
    number n ∷ number place ∷ or_null Text (option_map (type_id_at s) (member_type state)) ∷ or_null Text (member_account state) ∷ flag (is_ready state) ∷ []

abbrev pub MemberIsChanged : Type 0
MemberIsChanged = (x : ContestState) (n place : ℕ) (state : MemberState) → IsOneChange change.MemberState (member_state_given x.fixed.settings n (place + 1) state) x (add x (SetMember n place state))
