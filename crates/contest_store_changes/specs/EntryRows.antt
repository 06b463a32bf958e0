-- The row that a change gives its table.
use Rattle.std.specs.Prelude.{◌≡◌, ◌+◌, true, Some, [], length}
use Rattle.sqlite_value.specs.Order.{Row}
use Rattle.contest_lists.specs.Lists.{loaded}
use Rattle.contest_types.specs.Addable.{is_addable}
use Rattle.contest_types.specs.State.{ContestState}
use Rattle.contest_types.specs.declared.entry.Entry.{Entry}
use Rattle.contest_types.specs.declared.entry.Entry.TheVariants.{NewSubmission, NewProposal, NewRelease, NewClarification, NewRejudging, SetMember, SetRejudging, SetStart, SetThaw, SetFinalized, SetDuration, SetTeamName, SetDigest, NewType, NewLanguage, NewProblem, NewGroup, NewTeam, NewAccount}
use Rattle.contest_store_rows.specs.FixedRows.{account_row, group_row, language_row, problem_row, team_row, type_row}
use Rattle.contest_store_rows.specs.ListRows.{clarification_row, proposal_row, rejudging_row, release_row, submission_row}
use Rattle.contest_store_reading.specs.AccountRows.{digest_row}
use Rattle.contest_store_reading.specs.Heads.{duration_row, marks_row}
use Rattle.contest_store_reading.specs.Items.{team_name_row}
use Rattle.contest_store_tables.specs.declared.row_change.RowChange.{RowChange}
use Rattle.contest_store_tables.specs.declared.row_change.RowChange.TheVariants as change
use Rattle.contest_store_tables.specs.declared.table_name.TableName.{TableName}
use Rattle.contest_store_tables.specs.declared.table_name.TableName.TheVariants.{Items, Accounts, Submissions, Proposals, Releases, Rejudgings, Notices}
use Rattle.contest_store_changes.specs.Laws.{member_state_given, state_given, with_members}
use Rattle.contest_store_changes.specs.Sound.{IsSound}

-- with these lists the change is this new row of this table; of a rejudging it is the row without its members
abbrev pub IsNewRow : ContestState → Entry → TableName → Row → Type 0
IsNewRow x (NewSubmission s) table row = (table ≡ Submissions) × (row ≡ submission_row x.fixed.settings (length x.submissions + 1) s)
IsNewRow x (NewProposal p) table row = (table ≡ Proposals) × (row ≡ proposal_row x.fixed.settings (length x.proposals + 1) p)
IsNewRow x (NewRelease v) table row = (table ≡ Releases) × (row ≡ release_row x.fixed.settings (length x.releases + 1) v)
IsNewRow x (NewClarification c) table row = (table ≡ Notices) × (row ≡ clarification_row x.fixed.settings (length x.clarifications + 1) c)
IsNewRow x (NewRejudging r) table row = (table ≡ Rejudgings) × (row ≡ rejudging_row (length x.rejudgings + 1) r)
IsNewRow x (NewType t) table row = (table ≡ Items) × (row ≡ type_row (length x.fixed.settings.types + 1) t)
IsNewRow x (NewLanguage l) table row = (table ≡ Items) × (row ≡ language_row (length x.fixed.settings.languages + 1) l)
IsNewRow x (NewProblem p) table row = (table ≡ Items) × (row ≡ problem_row (length x.fixed.settings.problems + 1) p)
IsNewRow x (NewGroup g) table row = (table ≡ Items) × (row ≡ group_row (length x.fixed.settings.groups + 1) g)
IsNewRow x (NewTeam t) table row = (table ≡ Items) × (row ≡ team_row x.fixed.settings (length x.fixed.settings.teams + 1) t)
IsNewRow x (NewAccount a) table row = (table ≡ Accounts) × (row ≡ account_row x.fixed.settings a)
IsNewRow _ _ _ _ = ⊥

-- if a sound contest with these lists admits the change
abbrev pub IsRowIfAdmitted : ContestState → Entry → TableName → Row → Type 0
IsRowIfAdmitted lists e table row = (x : ContestState) → IsSound x → loaded x ≡ lists → is_addable x e ≡ true → IsNewRow lists e table row

-- the change whose row that is
abbrev pub headed : Entry → Entry
headed (NewRejudging r) = NewRejudging (with_members r [])
headed e = e

-- with these lists the change gives this to a row that stands
abbrev pub IsGiven : ContestState → Entry → RowChange → Row → Type 0
IsGiven x (SetStart start) kind row = (kind ≡ change.Marks) × (row ≡ marks_row (record x.fixed.marks { start = start }))
IsGiven x (SetThaw thaw) kind row = (kind ≡ change.Marks) × (row ≡ marks_row (record x.fixed.marks { thaw = Some thaw }))
IsGiven x (SetFinalized finalized) kind row = (kind ≡ change.Marks) × (row ≡ marks_row (record x.fixed.marks { finalized = Some finalized }))
IsGiven x (SetDuration duration freeze) kind row = (kind ≡ change.Duration) × (row ≡ duration_row duration freeze)
IsGiven x (SetTeamName team name) kind row = (kind ≡ change.ItemName) × (row ≡ team_name_row (team + 1) name)
IsGiven x (SetDigest id digest) kind row = (kind ≡ change.Digest) × (row ≡ digest_row id digest)
IsGiven x (SetRejudging n state) kind row = (kind ≡ change.RejudgingState) × (row ≡ state_given n state)
IsGiven x (SetMember n place state) kind row = (kind ≡ change.MemberState) × (row ≡ member_state_given x.fixed.settings n (place + 1) state)
IsGiven _ _ _ _ = ⊥
