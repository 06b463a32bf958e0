-- The rows of the tables of the lists, as they are loaded one table after the other.
use Rattle.std.specs.Prelude.{◌≡◌, ◌&&◌, true, List, [], ◌∷◌, ◌++◌}
use Rattle.sqlite_value.specs.Order.{Row}
use Rattle.contest_lists.specs.Lists.{loaded}
use Rattle.contest_types.specs.State.{ContestState}
use Rattle.contest_types.specs.Valid.{is_valid}
use Rattle.contest_store_rows.specs.Tables.{Tables}
use Rattle.contest_store_tables.specs.Schema.{first_tables}
use Rattle.contest_store_tables.specs.Steps.{Rises}
use Rattle.contest_store_tables.specs.Tables.{TableRows}
use Rattle.contest_store_valid.specs.Files.{has_small_files}
use Rattle.contest_store_changes.specs.Kinds.{AreOfKinds}
use Rattle.contest_store_tables.specs.declared.table_name.TableName.{TableName}
use Rattle.contest_store_tables.specs.declared.table_name.TableName.TheVariants.{Desk, Contest, Items, Accounts, Submissions, Proposals, Releases, Rejudgings, Members, Clarifications, Cells, Notices}

-- the rows of each table rise by its key, so that they have one order
abbrev pub AllRise : TableRows → Type 0
AllRise rows = (name : TableName) → Rises name (rows name)

-- the tables of the lists, in the order in which they are made
abbrev pub list_tables : List TableName
list_tables = first_tables ++ Notices ∷ []

abbrev pub no_rows : Tables
no_rows = record { desk = []; contest = []; items = []; accounts = []; submissions = []; proposals = []; releases = []; rejudgings = []; members = []; clarifications = []; notices = [] }

-- these rows in one table; those of the cells aren't of the lists
abbrev pub with_loaded : TableName → List Row → Tables → Tables
with_loaded Desk rows t = record t { desk = rows }
with_loaded Contest rows t = record t { contest = rows }
with_loaded Items rows t = record t { items = rows }
with_loaded Accounts rows t = record t { accounts = rows }
with_loaded Submissions rows t = record t { submissions = rows }
with_loaded Proposals rows t = record t { proposals = rows }
with_loaded Releases rows t = record t { releases = rows }
with_loaded Rejudgings rows t = record t { rejudgings = rows }
with_loaded Members rows t = record t { members = rows }
with_loaded Clarifications rows t = record t { clarifications = rows }
with_loaded Notices rows t = record t { notices = rows }
with_loaded Cells rows t = t

-- lists that were read passed all tests: a contest with these lists is valid if its files are small; and they are of their kinds
pub record AreChecked (lists : ContestState) : Type 0 where
  pub valid : (x : ContestState) → loaded x ≡ lists → (true && has_small_files x) ≡ is_valid x
  pub kinds : AreOfKinds lists
