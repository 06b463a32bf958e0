-- What is done to the tables of the first schema where they are upgraded (own).
use Rattle.std.specs.Prelude.{◌≡◌, ◌+◌, ◌<◌, ◌^◌, ℕ, List, [], ◌∷◌, Some, take}
use Rattle.sqlite_value.specs.Order.{Row}
use Rattle.contest_lists.specs.Lists.{loaded}
use Rattle.contest_types.specs.Setup.{Setup}
use Rattle.contest_types.specs.State.{ContestState}
use Rattle.contest_types.specs.declared.clarification.Clarification.{Clarification}
use Rattle.contest_store_rows.specs.Cells.{numbered}
use Rattle.contest_store_rows.specs.FixedRows.{desk_row}
use Rattle.contest_store_rows.specs.ListRows.{audience_number, clarification_row}
use Rattle.contest_store_rows.specs.declared.versions.Version.TheVariants.{First, Second}
use Rattle.contest_store_tables.specs.Steps.{Content, HasInserted, Holding, Rises, Showing, Within, with_rows}
use Rattle.contest_store_tables.specs.Tables.{TableRows}
use Rattle.contest_store_tables.specs.declared.table_name.TableName.TheVariants.{Desk, Clarifications, Cells, Notices}
use Rattle.contest_store_changes.specs.ContestTables.{rows_with}
use Rattle.contest_store_changes.specs.Sound.{IsSound}
use Rattle.contest_store_changes.specs.Upgraded.{first_listed_in, first_rows_with}

-- these are the rows that the first schema has of a sound contest with these lists, and of some cells
pub record FirstRows (lists : ContestState) (now : Content) : Type 0 where
  pub cells : List Row
  pub contest : ContestState
  pub shown : now ≡ Showing (first_rows_with cells contest)
  pub sound : IsSound contest
  pub found : first_listed_in (first_rows_with cells contest) ≡ Some contest
  pub held : loaded contest ≡ lists
  pub rises : Rises Cells cells

-- within a transaction the tables show them
abbrev pub ShowsFirst : (lists : ContestState) → Holding
ShowsFirst lists s now kept = FirstRows lists now × Within s now kept

-- these are rows of which the table of the notices has none, beside a sound contest with these lists
pub record Noticeless (lists : ContestState) (now : Content) : Type 0 where
  pub rows : TableRows
  pub contest : ContestState
  pub shown : now ≡ Showing rows
  pub none : rows Notices ≡ []
  pub sound : IsSound contest
  pub held : loaded contest ≡ lists

-- within a transaction the tables show them
abbrev pub ShowsNoticeless : (lists : ContestState) → Holding
ShowsNoticeless lists s now kept = Noticeless lists now × Within s now kept

-- with so many of the clarifications of the lists in that table
abbrev pub with_notices : (lists : ContestState) → ℕ → TableRows → TableRows
with_notices lists n rows = with_rows Notices (numbered (clarification_row lists.fixed.settings) (take n lists.clarifications)) rows

abbrev pub HasMoved : (lists : ContestState) → ℕ → Holding
HasMoved lists n s now kept = (rows : TableRows) → now ≡ Showing rows → Within s (Showing (with_notices lists n rows)) kept

-- they show the contest, with the same cells, as the schema of today has it
abbrev pub HasUpgraded : (lists : ContestState) → Holding
HasUpgraded lists s now kept = (f : FirstRows lists now) × Within s (Showing (rows_with f.cells f.contest)) kept

-- the row of the clarification at a place stands, if cells hold its numbers
abbrev pub HasNotice : Setup → (place : ℕ) → Clarification → Holding
HasNotice s place c st now kept =
    (audience_number c.addressee < 2 ^ 63) × (c.number + 1 < 2 ^ 63) → HasInserted Notices (clarification_row s (place + 1) c) st now kept

-- the version of the first schema became that of today
abbrev pub HasVersion : Holding
HasVersion s now kept = (rows : TableRows) → now ≡ Showing rows → rows Desk ≡ desk_row First ∷ [] → Within s (Showing (with_rows Desk (desk_row Second ∷ []) rows)) kept

-- and the table of its clarifications has no row any more
abbrev pub HasLeft : Holding
HasLeft s now kept =
    (rows : TableRows) → now ≡ Showing rows → rows Desk ≡ desk_row First ∷ [] → Within s (Showing (with_rows Desk (desk_row Second ∷ []) (with_rows Clarifications [] rows))) kept
