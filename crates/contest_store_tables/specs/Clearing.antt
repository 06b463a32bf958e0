-- A table whose rows are all taken out.
use Rattle.std.specs.Prelude.{◌≡◌, List, ℕ, [], ◌∷◌, false, None, pos, negsuc}
use Rattle.sqlite.specs.declared.types.Value.TheVariants.{Int}
use Rattle.sqlite.specs.Term.{lit, col}
use Rattle.sqlite.specs.Query.{Query, inner, end}
use Rattle.sqlite.specs.Command.TheVariants.{Delete}
use Rattle.sqlite.specs.Listing.{understood}
use Rattle.sqlite.proofs.Callers.{IsPlain, command_of}
use Rattle.contest_store_tables.specs.Schema.{form_of, index_of, desk_schema}
use Rattle.contest_store_tables.specs.Steps.{Holding, Within, Showing, with_rows}
use Rattle.contest_store_tables.specs.Tables.{TableRows}
use Rattle.contest_store_tables.specs.declared.table_name.TableName.{TableName}

-- the number of each row of the table
abbrev pub all_query : TableName → Query
all_query name = record {
  from = inner (form_of name).tree end;
  filter = [];
  group = None;
  project = col 1 0 ∷ [];
  distinct = false;
  collations = [];
  order = [];
  limit = lit (Int (negsuc 0));
  offset = lit (Int (pos 0));
}

-- the text takes all rows out of the table
pub record Clears (name : TableName) (sql : List ℕ) : Type 0 where
  pub is : command_of (understood desk_schema sql) ≡ Delete (index_of name) (record { lets = []; body = all_query name })
  pub plain : IsPlain (understood desk_schema sql)

-- the table has no row, and the other tables are as they were
abbrev pub HasCleared : TableName → Holding
HasCleared name s now kept = (rows : TableRows) → now ≡ Showing rows → Within s (Showing (with_rows name [] rows)) kept
