-- What the texts that make the tables mean.
use Rattle.std.specs.Prelude.{◌≡◌, ◌+◌, false, List, ℕ, Ok, take}
use Rattle.sqlite.specs.Change.{created}
use Rattle.sqlite.specs.Command.TheVariants.{CreateTable}
use Rattle.sqlite.specs.Compile.{table_defined_by}
use Rattle.sqlite.specs.Does.{lacks_sequence}
use Rattle.sqlite.specs.Listing.{understood}
use Rattle.sqlite.specs.Schema.{Schema}
use Rattle.sqlite.specs.Table.{Table}
use Rattle.sqlite.proofs.Callers.{IsPlain, command_of, statement_of}
use Rattle.contest_store_tables.specs.Schema.{index_of, all_tables}
use Rattle.contest_store_tables.specs.Steps.{schema_with}
use Rattle.contest_store_tables.specs.declared.table_name.TableName.{TableName}

-- the tables before this one, and those up to it
abbrev pub before : TableName → Schema
before name = schema_with (take (index_of name) all_tables)

abbrev pub up_to : TableName → Schema
up_to name = schema_with (take (index_of name + 1) all_tables)

-- where the tables before it are made, the text makes this one
pub record Creates (name : TableName) (sql : List ℕ) : Type 0 where
  pub is : command_of (understood (before name) sql) ≡ CreateTable
  pub whole : statement_of sql (understood (before name) sql) ≡ sql
  pub plain : IsPlain (understood (before name) sql)
  pub table : Table
  pub defined : table_defined_by sql ≡ Ok table
  pub made : created (before name) table ≡ up_to name
  pub uncounted : lacks_sequence (up_to name) ≡ false
