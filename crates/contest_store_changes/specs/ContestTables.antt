-- A contest and the rows of its tables by the names of these, and the contest that such rows are. The table of the cells
-- has what the lists come to.
use Rattle.std.specs.Prelude.{ℕ, Bool, true, false, ◌&&◌, List, [], ◌∷◌, map, zip, Option, Some, None, if◌then◌else◌}
use Rattle.std.specs.Option.{option_map, option_and_then}
use Rattle.sqlite_value.specs.declared.value.Value.{Value}
use Rattle.sqlite_value.specs.declared.value.Value.TheVariants.{Blob}
use Rattle.sqlite_value.specs.Order.{Row, column}
use Rattle.contest_types.specs.State.{ContestState}
use Rattle.contest_types.specs.Valid.{is_valid}
use Rattle.contest_types.specs.declared.submission.Submission.{Submission}
use Rattle.contest_store_rows.specs.Cells.{same_row}
use Rattle.contest_store_rows.specs.Tables.{Tables, rows_of}
use Rattle.contest_store_rows.specs.declared.versions.TheConstants.{VERSION}
use Rattle.contest_store_rows.specs.declared.versions.Version.{Version}
use Rattle.contest_store_cells.specs.CellRows.{cell_rows}
use Rattle.contest_store_reading.specs.Spelling.{lists_in_version}
use Rattle.contest_store_tables.specs.Statements.{loaded_row}
use Rattle.contest_store_tables.specs.Steps.{with_rows}
use Rattle.contest_store_tables.specs.Tables.{TableRows}
use Rattle.contest_store_tables.specs.declared.table_name.TableName.TheVariants.{Desk, Contest, Items, Accounts, Submissions, Proposals, Releases, Rejudgings, Members, Clarifications, Cells, Notices}

abbrev pub by_name : Tables → TableRows
by_name t Desk = t.desk
by_name t Contest = t.contest
by_name t Items = t.items
by_name t Accounts = t.accounts
by_name t Submissions = t.submissions
by_name t Proposals = t.proposals
by_name t Releases = t.releases
by_name t Rejudgings = t.rejudgings
by_name t Members = t.members
by_name t Clarifications = t.clarifications
by_name t Notices = t.notices
by_name t Cells = []

-- the rows of its lists, and no cells
abbrev pub list_rows : ContestState → TableRows
list_rows x = by_name (rows_of x)

-- the rows of its lists, and these of cells
abbrev pub rows_with : List Row → ContestState → TableRows
rows_with cells x = with_rows Cells cells (list_rows x)

-- all its rows, with its own cells
abbrev pub table_rows : ContestState → TableRows
table_rows x = rows_with (cell_rows x) x

-- what a load gives of the rows of the lists: of a submission's file only its type and its size, and the first schema's
-- clarifications as today's has them
abbrev pub loaded_tables : TableRows → Tables
loaded_tables rows = record {
  desk = rows Desk;
  contest = rows Contest;
  items = rows Items;
  accounts = rows Accounts;
  submissions = map (loaded_row Submissions) (rows Submissions);
  proposals = rows Proposals;
  releases = rows Releases;
  rejudgings = rows Rejudgings;
  members = rows Members;
  clarifications = map (loaded_row Clarifications) (rows Clarifications);
  notices = rows Notices;
}

abbrev pub bytes_of : Value → List ℕ
bytes_of (Blob bytes) = bytes
bytes_of _ = []

-- the file in a row of the submissions
abbrev pub file_in : Row → List ℕ
file_in r = bytes_of (column r 7)

abbrev pub with_file : Submission → Row → Submission
with_file s r = record s { file = file_in r }

-- the contest with the files that stand in the rows of its submissions
abbrev pub with_files : List Row → ContestState → ContestState
with_files rows x = record x { submissions = map (λ p. with_file p.0 p.1) (zip x.submissions rows) }

-- the contest whose lists the rows are in a version of the schema, files and all, whatever the cells; none where they are
-- those of no contest
abbrev pub listed_in_version : Version → TableRows → Option ContestState
listed_in_version version rows = option_map (with_files (rows Submissions)) (lists_in_version version (loaded_tables rows))

abbrev pub listed_in : TableRows → Option ContestState
listed_in = listed_in_version VERSION

abbrev pub if_valid : ContestState → Option ContestState
if_valid x = if is_valid x then Some x else None

-- and that is valid
abbrev pub valid_listed_in_version : Version → TableRows → Option ContestState
valid_listed_in_version version rows = option_and_then if_valid (listed_in_version version rows)

abbrev pub valid_listed_in : TableRows → Option ContestState
valid_listed_in = valid_listed_in_version VERSION

-- rows that are the same, one by one
abbrev pub same_rows : List Row → List Row → Bool
same_rows [] [] = true
same_rows (r ∷ rs) (q ∷ qs) = same_row r q && same_rows rs qs
same_rows _ _ = false

-- the contest, if these are the rows of its cells
abbrev pub if_scored : List Row → ContestState → Option ContestState
if_scored cells x = if same_rows cells (cell_rows x) then Some x else None

-- and whose cells are those of its lists: the contest that the tables show
abbrev pub valid_contest_in : TableRows → Option ContestState
valid_contest_in rows = option_and_then (if_scored (rows Cells)) (valid_listed_in rows)
