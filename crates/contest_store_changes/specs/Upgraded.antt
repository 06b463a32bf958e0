-- The rows that the first schema has of a contest, and what an upgrade makes of them.
use Rattle.std.specs.Prelude.{◌≡◌, ◌≢◌, ℕ, List, [], ◌∷◌, Option, Some}
use Rattle.std.specs.List.{AllByRecursion}
use Rattle.sqlite_value.specs.Order.{Row}
use Rattle.contest_types.specs.State.{ContestState}
use Rattle.contest_types.specs.declared.clarification.Addressee.TheVariants.{Group as ToGroup}
use Rattle.contest_types.specs.declared.clarification.Clarification.{Clarification}
use Rattle.contest_store_rows.specs.FixedRows.{desk_row}
use Rattle.contest_store_rows.specs.Tables.{notices_rows, rows_in_version}
use Rattle.contest_store_rows.specs.declared.versions.Version.TheVariants.{First, Second}
use Rattle.contest_store_tables.specs.Steps.{Rises, with_rows}
use Rattle.contest_store_tables.specs.Tables.{TableRows}
use Rattle.contest_store_tables.specs.declared.table_name.TableName.TheVariants.{Desk, Accounts, Submissions, Clarifications, Cells, Notices}
use Rattle.contest_store_changes.specs.ContestTables.{by_name, rows_with, valid_listed_in_version}
use Rattle.contest_store_changes.specs.Kinds.{AreOfKinds}
use Rattle.contest_store_changes.specs.Laws.{IsWide}
use Rattle.contest_store_changes.specs.Sound.{IsSound}

-- the rows of its lists in the first schema, and these of cells
abbrev pub first_rows_with : List Row → ContestState → TableRows
first_rows_with cells x = with_rows Cells cells (by_name (rows_in_version First x))

-- the valid contest whose lists rows of the first schema are, if they are one's
abbrev pub first_listed_in : TableRows → Option ContestState
first_listed_in = valid_listed_in_version First

-- it doesn't go to a group: the first schema has none such
abbrev pub GoesToNoGroup : Clarification → Type 0
GoesToNoGroup c = (group : ℕ) → c.addressee ≢ ToGroup group

-- a sound contest is the one whose lists these rows are
abbrev pub FirstRowsReadBack : Type 0
FirstRowsReadBack = (cells : List Row) (x : ContestState) → IsSound x → AllByRecursion GoesToNoGroup x.clarifications → first_listed_in (first_rows_with cells x) ≡ Some x

-- and a valid one of their kinds whose lists rows are is sound, and these are its rows
abbrev pub FirstContestsAreSound : Type 0
FirstContestsAreSound =
    (rows : TableRows) (x : ContestState) → Rises Accounts (rows Accounts) → AllByRecursion (IsWide Submissions) (rows Submissions) → AllByRecursion (IsWide Clarifications) (rows Clarifications)
    → AreOfKinds x → first_listed_in rows ≡ Some x → IsSound x × (first_rows_with (rows Cells) x ≡ rows)

-- where its clarifications are put into the table of today, are taken out of the other, and the version is set, its rows are
-- those of today's schema
abbrev pub FirstRowsAreUpgraded : Type 0
FirstRowsAreUpgraded = (cells : List Row) (x : ContestState)
    → with_rows Desk (desk_row Second ∷ []) (with_rows Clarifications [] (with_rows Notices (notices_rows Second x.fixed.settings x.clarifications) (first_rows_with cells x))) ≡ rows_with cells x
