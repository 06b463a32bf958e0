-- A desk whose table of the cells was taken out: that of the notices, which stands in its own place or in that of the cells then,
-- is read and taken out too, so that both can be made where they belong.
use Rattle.std.specs.Prelude.{◌≡◌, ℕ, List, [], false}
use Rattle.sqlite.specs.Command.TheVariants.{DropTable, Select}
use Rattle.sqlite.specs.Listing.{understood, reads_listing}
use Rattle.sqlite.specs.Query.{Query, inner, end}
use Rattle.sqlite.proofs.Callers.{IsPlain, command_of}
use Rattle.contest_store_tables.specs.Schema.{celless_schema, moved_notices}
use Rattle.contest_store_tables.specs.Statements.{load_query}
use Rattle.contest_store_tables.specs.Steps.{Celless, Holding, Lacking, Within, with_rows}
use Rattle.contest_store_tables.specs.Tables.{TableRows}
use Rattle.contest_store_tables.specs.declared.later_table.LaterTable.{LaterTable}
use Rattle.contest_store_tables.specs.declared.later_table.LaterTable.TheVariants as later
use Rattle.contest_store_tables.specs.declared.table_name.TableName.TheVariants.{Notices}

-- each row of the notices, by their key
abbrev pub moved_query : (place : LaterTable) → Query
moved_query place = record (load_query Notices) { from = inner (moved_notices place).tree end }

-- the text loads them
pub record LoadsMoved (place : LaterTable) (sql : List ℕ) : Type 0 where
  pub names : List (List ℕ)
  pub is : command_of (understood (celless_schema place) sql) ≡ Select (record { lets = []; body = moved_query place }) names
  pub plain : IsPlain (understood (celless_schema place) sql)
  pub unlisted : reads_listing (celless_schema place) sql ≡ false

-- the text takes their table out
pub record DropsMoved (place : LaterTable) (sql : List ℕ) : Type 0 where
  pub is : command_of (understood (celless_schema place) sql) ≡ DropTable 10
  pub plain : IsPlain (understood (celless_schema place) sql)

-- within a transaction the tables stand but for that of the cells
abbrev pub FullCelless : Holding
FullCelless s now kept = Within s now kept × ((rows : TableRows) × (now ≡ Celless rows))

-- the table of the notices is gone too, and the others have the same rows
abbrev pub HasDropped : Holding
HasDropped s now kept = (rows : TableRows) → now ≡ Celless rows → Within s (Lacking later.Cells (with_rows Notices [] rows)) kept
