-- Contests whose lists differ in one row of their tables.
use Rattle.std.specs.Prelude.{◌≡◌, ◌==◌, false}
use Rattle.sqlite_value.specs.Order.{Row}
use Rattle.contest_types.specs.State.{ContestState}
use Rattle.contest_store_tables.specs.Changes.{AreChanged, table_of_change}
use Rattle.contest_store_tables.specs.Schema.{form_of}
use Rattle.contest_store_tables.specs.Steps.{IsWith, with_rows}
use Rattle.contest_store_tables.specs.declared.row_change.RowChange.{RowChange}
use Rattle.contest_store_tables.specs.declared.table_name.TableName.{TableName}
use Rattle.contest_store_tables.specs.declared.table_name.TableName.TheVariants.{Cells}
use Rattle.contest_store_changes.specs.ContestTables.{list_rows}

-- it isn't the table of the cells
abbrev pub IsOfLists : TableName → Type 0
IsOfLists name = ((form_of name).tree == (form_of Cells).tree) ≡ false

-- the second has one more row in this table, and the other tables of both are the same
pub record IsOneRow (name : TableName) (row : Row) (x y : ContestState) : Type 0 where
  pub of_lists : IsOfLists name
  pub with_it : IsWith name row (list_rows x name) (list_rows y name)
  pub others : with_rows name (list_rows y name) (list_rows x) ≡ list_rows y

-- the second has a row changed, and the other tables of both are the same
pub record IsOneChange (change : RowChange) (given : Row) (x y : ContestState) : Type 0 where
  pub of_lists : IsOfLists (table_of_change change)
  pub changed : AreChanged change given (list_rows x (table_of_change change)) (list_rows y (table_of_change change))
  pub others : with_rows (table_of_change change) (list_rows y (table_of_change change)) (list_rows x) ≡ list_rows y
