-- What the texts of statements mean, over the tables of a contest.
use Rattle.std.specs.Prelude.{ℕ, ◌≡◌, ◌-◌, ◌&&◌, Bool, true, false, List, [], ◌∷◌, None, length, map, filter, pos, negsuc}
use Rattle.std.specs.List.{range_with_len}
use Rattle.std.specs.Option.{option_map_or}
use Rattle.sqlite.specs.Collation.TheVariants.{Binary}
use Rattle.sqlite.specs.declared.types.Value.{Value}
use Rattle.sqlite.specs.declared.types.Value.TheVariants.{Null, Int}
use Rattle.sqlite.specs.Table.{Table}
use Rattle.sqlite.specs.Term.{Term, lit, col, op1, op2}
use Rattle.sqlite.specs.Query.{Query, inner, end}
use Rattle.sqlite.specs.Source.TheVariants.{Values}
use Rattle.sqlite.specs.Command.TheVariants.{Insert, Select}
use Rattle.sqlite.specs.Order.{Row, column}
use Rattle.sqlite.specs.Listing.{understood, reads_listing}
use Rattle.sqlite.proofs.Callers.{IsPlain, command_of}
use Rattle.sqlite_schema.specs.Rules.{equal}
use Rattle.sqlite_sql.specs.declared.ops.BinaryOp.TheVariants.{Compare}
use Rattle.sqlite_sql.specs.declared.ops.CompareOp.TheVariants.{Eq, Ne}
use Rattle.sqlite_sql.specs.declared.ops.UnaryOp.TheVariants.{TypeOf, Length}
use Rattle.sqlite_sql.specs.Ops.{binary}
use Rattle.sqlite_sql.specs.Text.{length_of, type_of}
use Rattle.sqlite_value.specs.Keys.{ascending}
use Rattle.contest_store_tables.specs.Schema.{form_of, index_of, desk_schema}
use Rattle.contest_store_tables.specs.Tables.{columns_of}
use Rattle.contest_store_tables.specs.declared.table_name.TableName.{TableName}
use Rattle.contest_store_tables.specs.declared.table_name.TableName.TheVariants.{Submissions, Clarifications}

-- the parameters as a row of the tree: the row's number first, if the table has a column for it
abbrev pub given_terms : Table → List Term
given_terms t = option_map_or (λ _. col 0 0 ∷ lit Null ∷ map (col 0) (range_with_len 1 (length t.columns - 1))) t.key (lit Null ∷ map (col 0) (range_with_len 0 (length t.columns)))

-- how many parameters that takes
abbrev pub insert_width : TableName → ℕ
insert_width name = length (form_of name).columns

-- the text inserts its parameters as a row
pub record Inserts (name : TableName) (sql : List ℕ) : Type 0 where
  pub is : command_of (understood desk_schema sql) ≡ Insert (index_of name) (Values (given_terms (form_of name)) (length (given_terms (form_of name))))
  pub plain : IsPlain (understood desk_schema sql)

-- what a load gives of a row: all of it, but of a submission's file only its type and its length; and of a clarification of
-- the first schema, as today's schema has it, whether it goes to a team
abbrev pub loaded_row : TableName → Row → Row
loaded_row Submissions r =
    column r 0 ∷ column r 1 ∷ column r 2 ∷ column r 3 ∷ column r 4 ∷ column r 5 ∷ column r 6 ∷ type_of (column r 7) ∷ length_of (column r 7) ∷ column r 8 ∷ []
loaded_row Clarifications r =
    column r 0 ∷ binary (Compare Ne Binary) (column r 1) (Int (pos 0)) ∷ column r 1 ∷ column r 2 ∷ column r 3 ∷ column r 4 ∷ column r 5 ∷ column r 6 ∷ column r 7
    ∷ column r 8 ∷ column r 9 ∷ []
loaded_row _ r = r

abbrev pub loaded_terms : TableName → List Term
loaded_terms Submissions =
    col 1 0 ∷ col 1 2 ∷ col 1 3 ∷ col 1 4 ∷ col 1 5 ∷ col 1 6 ∷ col 1 7 ∷ op1 TypeOf (col 1 8) ∷ op1 Length (col 1 8) ∷ col 1 9 ∷ []
loaded_terms Clarifications =
    col 1 0 ∷ op2 (Compare Ne Binary) (col 1 2) (lit (Int (pos 0))) ∷ col 1 2 ∷ col 1 3 ∷ col 1 4 ∷ col 1 5 ∷ col 1 6 ∷ col 1 7 ∷ col 1 8 ∷ col 1 9 ∷ col 1 10 ∷ []
loaded_terms name = map (col 1) (columns_of (form_of name))

-- each row of the table, by its key
abbrev pub load_query : TableName → Query
load_query name = record {
  from = inner (form_of name).tree end;
  filter = [];
  group = None;
  project = loaded_terms name;
  distinct = false;
  collations = [];
  order = map (λ at. (col 1 at, ascending Binary)) (form_of name).primary;
  limit = lit (Int (negsuc 0));
  offset = lit (Int (pos 0));
}

-- the text loads the table
pub record Loads (name : TableName) (sql : List ℕ) : Type 0 where
  pub names : List (List ℕ)
  pub is : command_of (understood desk_schema sql) ≡ Select (record { lets = []; body = load_query name }) names
  pub plain : IsPlain (understood desk_schema sql)
  pub unlisted : reads_listing desk_schema sql ≡ false

-- the team and the number are these, as SQL compares them
abbrev pub is_submission : Value → Value → Row → Bool
is_submission team number r = equal Binary (column r 1) team && (equal Binary (column r 2) number && true)

-- the files of the submissions with this number of this team
abbrev pub files_of : Value → Value → List Row → List Row
files_of team number rows = map (λ r. column r 7 ∷ []) (filter (is_submission team number) rows)

-- the files of the submissions whose team and number are the parameters
abbrev pub file_query : Query
file_query = record {
  from = inner (form_of Submissions).tree end;
  filter = op2 (Compare Eq Binary) (col 1 2) (col 0 0) ∷ op2 (Compare Eq Binary) (col 1 3) (col 0 1) ∷ [];
  group = None;
  project = col 1 8 ∷ [];
  distinct = false;
  collations = [];
  order = [];
  limit = lit (Int (negsuc 0));
  offset = lit (Int (pos 0));
}

-- the text finds the file of a submission
pub record FindsFile (sql : List ℕ) : Type 0 where
  pub names : List (List ℕ)
  pub is : command_of (understood desk_schema sql) ≡ Select (record { lets = []; body = file_query }) names
  pub plain : IsPlain (understood desk_schema sql)
  pub unlisted : reads_listing desk_schema sql ≡ false
