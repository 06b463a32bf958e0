-- What one call of the connection does to what its tables show (own).
use Rattle.std.specs.Prelude.{ℕ, ◌≡◌, ◌==◌, false, List, [], ◌∷◌, fold, take, IsTrue, Result, OnOk, OnErr, if◌then◌else◌}
use Rattle.std.specs.List.{AllByRecursion}
use Rattle.std.specs.List.Sorted.{IsPermutation}
use Rattle.std.specs.declared.cmp.Ordering.TheVariants.{Less}
use Rattle.sqlite.specs.Order.{Row}
use Rattle.sqlite.specs.Tree.{Trees}
use Rattle.sqlite.specs.State.{State, HasCleanDisk, Survives}
use Rattle.sqlite.specs.Rowids.TheVariants.{Chosen}
use Rattle.sqlite.specs.Table.{Table}
use Rattle.sqlite.specs.Schema.{Schema}
use Rattle.sqlite.specs.Effect.{Database}
use Rattle.sqlite.specs.Change.{created}
use Rattle.sqlite.specs.Term.{eval_all}
use Rattle.sqlite_rules.specs.Edit.{with_rowid}
use Rattle.sqlite_rules.specs.Cast.{cast_row}
use Rattle.sqlite_trees.specs.Tree.{IsAscending, IsTable, rowid}
use Rattle.sqlite_trees.specs.View.{is_int}
use Rattle.contest_store.specs.declared.store_error.StoreError.{StoreError}
use Rattle.contest_store_tables.specs.Schema.{form_of, all_tables, celless_schema, desk_schema, schema_before}
use Rattle.contest_store_tables.specs.Tables.{TableRows, rows_in, show, by_key, lacking, with_cells_back}
use Rattle.contest_store_tables.specs.Statements.{given_terms}
use Rattle.contest_store_tables.specs.Counts.{CountsCall}
use Rattle.contest_store_tables.specs.declared.counts.Counts.{Counts}
use Rattle.contest_store_tables.specs.declared.later_table.LaterTable.{LaterTable}
use Rattle.contest_store_tables.specs.declared.later_table.LaterTable.TheVariants.{Cells, Notices}
use Rattle.contest_store_tables.specs.declared.table_name.TableName.{TableName}

-- these tables, made one after the other
abbrev pub schema_with : List TableName → Schema
schema_with = fold (λ s name. created s (form_of name)) (record { tables = []; indexes = []; views = [] })

-- the rows of each tree rise by their numbers
abbrev pub AreNumbered : Trees → Type 0
AreNumbered db = (name : TableName) → IsTable (db (form_of name).tree) × AllByRecursion (λ r. IsTrue (is_int (rowid r))) (db (form_of name).tree)

-- what a database has: these tables alone, all of them empty, or the tables of a desk with these rows, or those that are
-- made before one of them, or all but that of the cells
pub data Content : Type 0 where
  OnlyMade : List TableName → Content
  Showing : TableRows → Content
  Lacking : LaterTable → TableRows → Content
  Celless : TableRows → Content

abbrev pub HasContent : Database → Content → Type 0
HasContent d (OnlyMade made) = (d.schema ≡ schema_with made) × AllByRecursion (λ (t : Table). d.trees t.tree ≡ []) d.schema.tables
HasContent d (Showing rows) = (d.schema ≡ desk_schema) × (rows_in d.trees ≡ rows) × AreNumbered d.trees
HasContent d (Lacking table rows) = (d.schema ≡ schema_before table) × (rows_in (lacking table d.trees) ≡ rows) × AreNumbered (lacking table d.trees)
HasContent d (Celless rows) =
    (place : LaterTable) × (d.schema ≡ celless_schema place) × (rows_in (with_cells_back place d.trees) ≡ rows) × AreNumbered (with_cells_back place d.trees)

-- trees that show these rows; of tables without a row nothing is said
abbrev pub Spells : Trees → Content → Type 0
Spells db (OnlyMade made) = Unit {0}
Spells db (Showing rows) = rows_in db ≡ rows
Spells db (Lacking table rows) = rows_in (lacking table db) ≡ rows
Spells db (Celless rows) = (place : LaterTable) × (rows_in (with_cells_back place db) ≡ rows)

-- an open connection has this content now, and this one as it was last committed
pub record Holds (s : State) (now kept : Content) : Type 0 where
  pub is_open : IsTrue s.is_open
  pub shows : HasContent s.now now
  pub keeps : HasContent s.committed kept

-- a relation of a state to the content of now and of the last commit
abbrev pub Holding : Type 1
Holding = State → Content → Content → Type 0

abbrev pub Within : Holding
Within s now kept = Holds s now kept × IsTrue s.in_transaction

-- the tables of a desk stand
abbrev pub Full : Holding
Full s now kept = Within s now kept × ((rows : TableRows) × (now ≡ Showing rows))

-- those stand that are made before this one
abbrev pub FullLacking : LaterTable → Holding
FullLacking table s now kept = Within s now kept × ((rows : TableRows) × (now ≡ Lacking table rows))

-- the last commit became this
abbrev pub Ended : Holding
Ended s now kept = Holds s now now

-- of all tables only the first so many are made
abbrev pub HasFirst : ℕ → Holding
HasFirst count s now kept = Within s now kept × (now ≡ OnlyMade (take count all_tables))

-- so many of the tables were made, where there was none
abbrev pub HasCreated : ℕ → Holding
HasCreated count s now kept = Within s (OnlyMade (take count all_tables)) kept

-- all tables are made, and are empty
abbrev pub HasMade : Holding
HasMade s now kept = Within s (Showing (λ _. [])) kept

-- what a database has once this table is made too, and is empty
abbrev pub with_later : LaterTable → TableRows → Content
with_later Cells rows = Lacking Notices rows
with_later Notices rows = Showing rows

-- it is made, and the others have the same rows
abbrev pub HasLater : LaterTable → Holding
HasLater table s now kept = (rows : TableRows) → now ≡ Lacking table rows → Within s (with_later table rows) kept

-- these rows in place of those of one table
abbrev pub with_rows : TableName → List Row → TableRows → TableRows
with_rows name rows all other = if (form_of other).tree == (form_of name).tree then rows else all other

-- the rows rise by the key of their table
abbrev pub Rises : TableName → List Row → Type 0
Rises name = IsAscending (λ a b. by_key (form_of name) a b ≡ Less)

-- the columns hold the row as it is given
abbrev pub IsHeldAsGiven : Table → Row → Type 0
IsHeldAsGiven t row = (rows : List Row) → show t (with_rowid Chosen rows (cast_row t (eval_all (given_terms t) (row ∷ [])))) ≡ row

-- these are the rows with one more
pub record IsWith (name : TableName) (row : Row) (rows next : List Row) : Type 0 where
  pub as_given : IsHeldAsGiven (form_of name) row
  pub among : IsPermutation (row ∷ rows) next
  pub rises : Rises name next

-- one more row stands in the table, and the other tables are as they were
abbrev pub HasInserted : TableName → Row → Holding
HasInserted name row s now kept =
    (rows : TableRows) (next : List Row) → now ≡ Showing rows → IsWith name row (rows name) next → Within s (Showing (with_rows name next rows)) kept

-- a transaction stands only in an open connection
abbrev pub IsLive : State → Type 0
IsLive s = IsTrue s.in_transaction → IsTrue s.is_open

-- no transaction is left, and an open connection shows the last commit
pub record Undoes (old new : State) (From : Holding) : Type 0 where
  pub autocommit : new.in_transaction ≡ false
  pub holds : IsTrue new.is_open → (now kept : Content) → From old now kept → Holds new kept kept

-- On Ok what is to hold after it, on Err the last commit. What fails is counted. A crash leaves what it could
-- leave before, or what is made.
pub record Step {T : Type 0} (result : Result T StoreError) (old new : State) (before after : Counts) (From To : Holding) (Made : Trees → Type 0) : Type 0 where
  pub ok : HasCleanDisk new → (now kept : Content) → From old now kept → OnOk result (To new now kept)
  pub err : HasCleanDisk new → OnErr result (Undoes old new From)
  pub counts : CountsCall result before after
  pub survives : Survives old new Made

-- nothing is made where it starts as it has to
abbrev pub MakesNone : State → Holding → Trees → Type 0
MakesNone old From db = (now kept : Content) → ¬ From old now kept

-- the content of now
abbrev pub MakesNow : State → Holding → Trees → Type 0
MakesNow old From db = (now kept : Content) → From old now kept → Spells db now

-- a call that begins a transaction where there is none
pub record Call {T : Type 0} (result : Result T StoreError) (old new : State) (before after : Counts) (From To : Holding) (Made : Trees → Type 0) : Type 0 where
  pub step : Step result old new before after From To (λ db. (IsLive old → IsTrue old.is_open) × Made db)
  pub up : HasCleanDisk new → IsLive old → OnOk result (IsTrue old.is_open)
  pub back : HasCleanDisk new → IsLive old → OnErr result (IsTrue new.is_open → IsTrue old.is_open)
