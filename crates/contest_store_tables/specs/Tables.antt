-- The rows that tables show, each table's in the order of its key.
use Rattle.std.specs.Prelude.{ℕ, ◌-◌, List, [], ◌∷◌, length, map}
use Rattle.std.specs.List.{range_with_len}
use Rattle.std.specs.Option.{option_map_or}
use Rattle.std.specs.declared.cmp.Ordering.{Ordering}
use Rattle.sqlite.specs.Order.{Row, column}
use Rattle.sqlite.specs.Table.{Table}
use Rattle.sqlite.specs.Tree.{Trees}
use Rattle.sqlite_trees.specs.Tree.{with_tree}
use Rattle.sqlite_value.specs.Keys.{rising}
use Rattle.sqlite_sql.specs.Query.{key_cmp}
use Rattle.sqlite_keyed.specs.Lists.{sort_by}
use Rattle.contest_store_tables.specs.Schema.{form_of, moved_notices}
use Rattle.contest_store_tables.specs.declared.later_table.LaterTable.{LaterTable}
use Rattle.contest_store_tables.specs.declared.later_table.LaterTable.TheVariants as later
use Rattle.contest_store_tables.specs.declared.table_name.TableName.{TableName}
use Rattle.contest_store_tables.specs.declared.table_name.TableName.TheVariants.{Cells, Notices}

-- where its columns stand in a row of the tree, which begins with the row's number and has none in its place
abbrev pub columns_of : Table → List ℕ
columns_of t = option_map_or (λ _. 0 ∷ range_with_len 2 (length t.columns - 1)) t.key (range_with_len 1 (length t.columns))

-- the columns of a row
abbrev pub show : Table → Row → Row
show t r = map (column r) (columns_of t)

-- by the columns of the key, which are the first
abbrev pub by_key : Table → Row → Row → Ordering
by_key t = key_cmp 0 (rising (length t.primary) [])

-- the rows of each table
abbrev pub TableRows : Type 0
TableRows = TableName → List Row

abbrev pub rows_in : Trees → TableRows
rows_in db name = sort_by (by_key (form_of name)) (map (show (form_of name)) (db (form_of name).tree))

-- the trees of a desk that lacks this table, as if it and those after it were there and had no row
abbrev pub lacking : LaterTable → Trees → Trees
lacking later.Cells db = with_tree (with_tree db (form_of Notices).tree []) (form_of Cells).tree []
lacking later.Notices db = with_tree db (form_of Notices).tree []

-- the trees of a desk whose table of the cells was taken out, with the notices in that place, as if it were there and had no
-- row
abbrev pub with_cells_back : (place : LaterTable) → Trees → Trees
with_cells_back place db = with_tree (with_tree db (form_of Notices).tree (db (moved_notices place).tree)) (form_of Cells).tree []
