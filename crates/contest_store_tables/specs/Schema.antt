-- The tables of a contest, as the statements that make them leave them (SQLite, "CREATE TABLE").
use Rattle.std.specs.Prelude.{ℕ, Bool, true, false, List, [], ◌∷◌, ◌+◌, ◌++◌, map, None, Some, codes}
use Rattle.sqlite.specs.Collation.TheVariants.{Binary}
use Rattle.sqlite.specs.declared.types.Value.TheVariants.{Null}
use Rattle.sqlite.specs.Table.{Table}
use Rattle.sqlite.specs.Schema.{Schema}
use Rattle.sqlite.specs.Kind.{Kind}
use Rattle.sqlite.specs.Kind.TheVariants.{Integer, Text, Blob}
use Rattle.sqlite_schema.specs.declared.schema.Column.{Column}
use Rattle.sqlite_schema.specs.declared.schema.Index.{Index}
use Rattle.sqlite_schema.specs.declared.schema.Stamps.{Stamps}
use Rattle.sqlite_value.specs.Keys.{plain}
use Rattle.contest_store_tables.specs.declared.later_table.LaterTable.{LaterTable}
use Rattle.contest_store_tables.specs.declared.later_table.LaterTable.TheVariants as later
use Rattle.contest_store_tables.specs.declared.table_name.TableName.{TableName}
use Rattle.contest_store_tables.specs.declared.table_name.TableName.TheVariants.{Desk, Contest, Items, Accounts, Submissions, Proposals, Releases, Rejudgings, Members, Clarifications, Cells, Notices}

abbrev pub column_of : Kind → (not_null : Bool) → List ℕ → Column
column_of kind not_null name = record { name = name; kind = kind; is_strict = true; not_null = not_null; default = Null; collation = Binary }

abbrev pub number : List ℕ → Column
number = column_of Integer true

abbrev pub text : List ℕ → Column
text = column_of Text true

abbrev pub bytes : List ℕ → Column
bytes = column_of Blob true

abbrev pub number_or_none : List ℕ → Column
number_or_none = column_of Integer false

abbrev pub text_or_none : List ℕ → Column
text_or_none = column_of Text false

-- no column takes the time
abbrev pub no_stamps : Stamps
no_stamps = record { places = []; terms = []; formats = [] }

-- a table with these columns, of which some are the key, and others stand once too
abbrev pub table_of : List ℕ → (tree : ℕ) → (key : List ℕ) → List (List ℕ) → List Column → Table
table_of name tree key once columns = record {
  name = name;
  tree = tree;
  columns = columns;
  key = None;
  primary = key;
  uniques = key ∷ once;
  orders = plain ∷ map (λ _. plain) once;
  checks = [];
  references = [];
  computed = [];
  stamps = no_stamps;
  is_counted = false;
}

-- a table whose first column is its rows' number in the tree
abbrev pub numbered_table : List ℕ → (tree : ℕ) → List (List ℕ) → List Column → Table
numbered_table name tree once columns = record {
  name = name;
  tree = tree;
  columns = columns;
  key = Some 0;
  primary = 0 ∷ [];
  uniques = once;
  orders = map (λ _. plain) once;
  checks = [];
  references = [];
  computed = [];
  stamps = no_stamps;
  is_counted = false;
}

abbrev pub form_of : TableName → Table
form_of Desk = numbered_table (codes "desk") 0 [] (number_or_none (codes "one") ∷ number (codes "version") ∷ [])
form_of Contest = numbered_table (codes "contest") 1 []
    (number_or_none (codes "one") ∷ text (codes "id") ∷ text (codes "name") ∷ number (codes "duration") ∷ number_or_none (codes "freeze") ∷ number (codes "penalty")
    ∷ number (codes "verification") ∷ number (codes "gold") ∷ number (codes "silver") ∷ number (codes "bronze") ∷ number_or_none (codes "start")
    ∷ number_or_none (codes "thaw") ∷ number_or_none (codes "finalized") ∷ [])
form_of Items = table_of (codes "items") 2 (1 ∷ 2 ∷ []) ((1 ∷ 3 ∷ []) ∷ [])
    (number (codes "kind") ∷ number (codes "place") ∷ text (codes "id") ∷ text (codes "name") ∷ text (codes "label") ∷ number (codes "ordinal")
    ∷ number (codes "flag_a") ∷ number (codes "flag_b") ∷ text (codes "group_ids") ∷ [])
form_of Accounts = table_of (codes "accounts") 5 (1 ∷ []) ((4 ∷ []) ∷ []) (text (codes "id") ∷ number (codes "role") ∷ text_or_none (codes "team") ∷ bytes (codes "token") ∷ [])
form_of Submissions = numbered_table (codes "submissions") 8 ((2 ∷ 3 ∷ []) ∷ (2 ∷ 9 ∷ []) ∷ [])
    (number_or_none (codes "seq") ∷ number (codes "team") ∷ number (codes "k") ∷ number (codes "time") ∷ text (codes "problem") ∷ text (codes "language")
    ∷ text_or_none (codes "entry") ∷ bytes (codes "file") ∷ text_or_none (codes "key") ∷ [])
form_of Proposals = numbered_table (codes "proposals") 11 []
    (number_or_none (codes "seq") ∷ number (codes "team") ∷ number (codes "k") ∷ text (codes "type") ∷ text (codes "account") ∷ number (codes "time") ∷ [])
form_of Releases = numbered_table (codes "releases") 12 ((2 ∷ 3 ∷ 4 ∷ []) ∷ [])
    (number_or_none (codes "seq") ∷ number (codes "team") ∷ number (codes "k") ∷ number (codes "n") ∷ text (codes "type") ∷ number (codes "time") ∷ [])
form_of Rejudgings = numbered_table (codes "rejudgings") 14 [] (number_or_none (codes "n") ∷ text (codes "reason") ∷ number (codes "state") ∷ [])
form_of Members = table_of (codes "members") 15 (1 ∷ 2 ∷ []) []
    (number (codes "rejudging") ∷ number (codes "place") ∷ number (codes "team") ∷ number (codes "k") ∷ text_or_none (codes "type") ∷ text_or_none (codes "account")
    ∷ number (codes "ready") ∷ [])
form_of Clarifications = numbered_table (codes "clarifications") 17 ((2 ∷ 3 ∷ []) ∷ [])
    (number_or_none (codes "seq") ∷ number (codes "audience") ∷ number (codes "k") ∷ number (codes "from_jury") ∷ text (codes "account") ∷ text_or_none (codes "problem")
    ∷ text_or_none (codes "reply") ∷ text (codes "text") ∷ number (codes "time") ∷ text_or_none (codes "key") ∷ [])
form_of Cells = table_of (codes "cells") 19 (1 ∷ 2 ∷ 3 ∷ []) []
    (number (codes "audience") ∷ number (codes "team") ∷ text (codes "problem") ∷ number (codes "judged") ∷ number (codes "pending") ∷ number_or_none (codes "solved")
    ∷ number (codes "penalties") ∷ [])
form_of Notices = numbered_table (codes "notices") 21 ((2 ∷ 3 ∷ 4 ∷ []) ∷ [])
    (number_or_none (codes "seq") ∷ number (codes "kind") ∷ number (codes "number") ∷ number (codes "k") ∷ number (codes "from_jury") ∷ text (codes "account")
    ∷ text_or_none (codes "problem") ∷ text_or_none (codes "reply") ∷ text (codes "text") ∷ number (codes "time") ∷ text_or_none (codes "key") ∷ [])

abbrev pub later_name : LaterTable → TableName
later_name later.Cells = Cells
later_name later.Notices = Notices

-- those that each desk has had
abbrev pub first_tables : List TableName
first_tables = Desk ∷ Contest ∷ Items ∷ Accounts ∷ Submissions ∷ Proposals ∷ Releases ∷ Rejudgings ∷ Members ∷ Clarifications ∷ []

-- in the order in which they are made
abbrev pub all_tables : List TableName
all_tables = first_tables ++ Cells ∷ Notices ∷ []

-- those that are made before this one
abbrev pub tables_before : LaterTable → List TableName
tables_before later.Cells = first_tables
tables_before later.Notices = first_tables ++ Cells ∷ []

-- the place of a table among them
abbrev pub index_of : TableName → ℕ
index_of Desk = 0
index_of Contest = 1
index_of Items = 2
index_of Accounts = 3
index_of Submissions = 4
index_of Proposals = 5
index_of Releases = 6
index_of Rejudgings = 7
index_of Members = 8
index_of Clarifications = 9
index_of Cells = 10
index_of Notices = 11

abbrev pub index_on : List ℕ → (tree table : ℕ) → List ℕ → Index
index_on name tree table columns = record { name = name; tree = tree; table = table; columns = columns; order = plain; is_unique = true }

abbrev pub first_indexes : List Index
first_indexes =
    index_on (codes "sqlite_autoindex_items_1") 3 2 (1 ∷ 2 ∷ []) ∷ index_on (codes "sqlite_autoindex_items_2") 4 2 (1 ∷ 3 ∷ [])
    ∷ index_on (codes "sqlite_autoindex_accounts_1") 6 5 (1 ∷ []) ∷ index_on (codes "sqlite_autoindex_accounts_2") 7 5 (4 ∷ [])
    ∷ index_on (codes "sqlite_autoindex_submissions_1") 9 8 (2 ∷ 3 ∷ []) ∷ index_on (codes "sqlite_autoindex_submissions_2") 10 8 (2 ∷ 9 ∷ [])
    ∷ index_on (codes "sqlite_autoindex_releases_1") 13 12 (2 ∷ 3 ∷ 4 ∷ []) ∷ index_on (codes "sqlite_autoindex_members_1") 16 15 (1 ∷ 2 ∷ [])
    ∷ index_on (codes "sqlite_autoindex_clarifications_1") 18 17 (2 ∷ 3 ∷ []) ∷ []

abbrev pub cells_index : Index
cells_index = index_on (codes "sqlite_autoindex_cells_1") 20 19 (1 ∷ 2 ∷ 3 ∷ [])

abbrev pub desk_indexes : List Index
desk_indexes = first_indexes ++ cells_index ∷ index_on (codes "sqlite_autoindex_notices_1") 22 21 (2 ∷ 3 ∷ 4 ∷ []) ∷ []

abbrev pub indexes_before : LaterTable → List Index
indexes_before later.Cells = first_indexes
indexes_before later.Notices = first_indexes ++ cells_index ∷ []

-- the tables of a desk that lacks this one
abbrev pub schema_before : LaterTable → Schema
schema_before table = record { tables = map form_of (tables_before table); indexes = indexes_before table; views = [] }

-- the table of the notices in the place of that one: its own, or that of the cells, which were taken out
abbrev pub moved_notices : (place : LaterTable) → Table
moved_notices place = record (form_of Notices) { tree = (form_of (later_name place)).tree }

abbrev pub moved_index : (place : LaterTable) → Index
moved_index place = index_on (codes "sqlite_autoindex_notices_1") ((moved_notices place).tree + 1) (moved_notices place).tree (2 ∷ 3 ∷ 4 ∷ [])

-- the tables of a desk whose table of the cells was taken out: the notices stay in their place, where a gap is left, or take
-- that of the cells (SQLite, "DROP TABLE", "VACUUM")
abbrev pub celless_schema : (place : LaterTable) → Schema
celless_schema place = record {
  tables = map form_of first_tables ++ moved_notices place ∷ [];
  indexes = first_indexes ++ moved_index place ∷ [];
  views = [];
}

abbrev pub desk_schema : Schema
desk_schema = record { tables = map form_of all_tables; indexes = desk_indexes; views = [] }
