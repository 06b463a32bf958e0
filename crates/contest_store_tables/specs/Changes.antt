-- Changes of a row where it stands.
use Rattle.std.specs.Prelude.{◌≡◌, ◌&&◌, ℕ, Bool, true, false, List, [], ◌∷◌, None, All, map, if◌then◌else◌, pos, negsuc}
use Rattle.sqlite.specs.Collation.TheVariants.{Binary}
use Rattle.sqlite.specs.declared.types.Value.TheVariants.{Null, Int}
use Rattle.sqlite.specs.Table.{Table}
use Rattle.sqlite.specs.Term.{Term, lit, col, op2, eval_all}
use Rattle.sqlite.specs.Query.{Query, inner, end}
use Rattle.sqlite.specs.Command.TheVariants.{Update}
use Rattle.sqlite.specs.Order.{Row, column}
use Rattle.sqlite.specs.Listing.{understood}
use Rattle.sqlite.proofs.Callers.{IsPlain, command_of}
use Rattle.sqlite_rules.specs.Cast.{cast_row}
use Rattle.sqlite_schema.specs.Rules.{equal}
use Rattle.sqlite_sql.specs.declared.ops.BinaryOp.TheVariants.{Compare}
use Rattle.sqlite_sql.specs.declared.ops.CompareOp.TheVariants.{Eq}
use Rattle.contest_store_tables.specs.Schema.{form_of, index_of, desk_schema}
use Rattle.contest_store_tables.specs.Tables.{TableRows, show}
use Rattle.contest_store_tables.specs.Statements.{given_terms}
use Rattle.contest_store_tables.specs.Steps.{Holding, Within, Showing, with_rows, Rises}
use Rattle.contest_store_tables.specs.declared.row_change.RowChange.{RowChange}
use Rattle.contest_store_tables.specs.declared.row_change.RowChange.TheVariants.{Version, Marks, Duration, ItemName, Digest, RejudgingState, MemberState, Cell}
use Rattle.contest_store_tables.specs.declared.table_name.TableName.{TableName}
use Rattle.contest_store_tables.specs.declared.table_name.TableName.TheVariants.{Desk, Contest, Items, Accounts, Rejudgings, Members, Cells}

abbrev pub table_of_change : RowChange → TableName
table_of_change Version = Desk
table_of_change Marks = Contest
table_of_change Duration = Contest
table_of_change ItemName = Items
table_of_change Digest = Accounts
table_of_change RejudgingState = Rejudgings
table_of_change MemberState = Members
table_of_change Cell = Cells

-- the key of the row is the first of what is given, as SQL compares them
abbrev pub is_changed : RowChange → Row → Row → Bool
is_changed Version given r = equal Binary (column r 0) (column given 0) && true
is_changed Marks given r = equal Binary (column r 0) (column given 0) && true
is_changed Duration given r = equal Binary (column r 0) (column given 0) && true
is_changed ItemName given r = equal Binary (column r 0) (column given 0) && (equal Binary (column r 1) (column given 1) && true)
is_changed Digest given r = equal Binary (column r 0) (column given 0) && true
is_changed RejudgingState given r = equal Binary (column r 0) (column given 0) && true
is_changed MemberState given r = equal Binary (column r 0) (column given 0) && (equal Binary (column r 1) (column given 1) && true)
is_changed Cell given r =
    equal Binary (column r 0) (column given 0) && (equal Binary (column r 1) (column given 1) && (equal Binary (column r 2) (column given 2) && true))

-- how much is given: the key of the row, and the new values
abbrev pub change_width : RowChange → ℕ
change_width Version = 2
change_width Marks = 4
change_width Duration = 3
change_width ItemName = 3
change_width Digest = 2
change_width RejudgingState = 2
change_width MemberState = 5
change_width Cell = 7

-- the row with what else is given in the columns that change
abbrev pub changed_row : RowChange → Row → Row → Row
changed_row Version given r = column r 0 ∷ column given 1 ∷ []
changed_row Marks given r =
    column r 0 ∷ column r 1 ∷ column r 2 ∷ column r 3 ∷ column r 4 ∷ column r 5 ∷ column r 6 ∷ column r 7 ∷ column r 8 ∷ column r 9
    ∷ column given 1 ∷ column given 2 ∷ column given 3 ∷ []
changed_row Duration given r =
    column r 0 ∷ column r 1 ∷ column r 2 ∷ column given 1 ∷ column given 2 ∷ column r 5 ∷ column r 6 ∷ column r 7 ∷ column r 8 ∷ column r 9
    ∷ column r 10 ∷ column r 11 ∷ column r 12 ∷ []
changed_row ItemName given r =
    column r 0 ∷ column r 1 ∷ column r 2 ∷ column given 2 ∷ column r 4 ∷ column r 5 ∷ column r 6 ∷ column r 7 ∷ column r 8 ∷ []
changed_row Digest given r = column r 0 ∷ column r 1 ∷ column r 2 ∷ column given 1 ∷ []
changed_row RejudgingState given r = column r 0 ∷ column r 1 ∷ column given 1 ∷ []
changed_row MemberState given r = column r 0 ∷ column r 1 ∷ column r 2 ∷ column r 3 ∷ column given 2 ∷ column given 3 ∷ column given 4 ∷ []
changed_row Cell given r = column r 0 ∷ column r 1 ∷ column r 2 ∷ column given 3 ∷ column given 4 ∷ column given 5 ∷ column given 6 ∷ []

abbrev pub change_row : RowChange → Row → Row → Row
change_row change given r = if is_changed change given r then changed_row change given r else r

abbrev pub change_terms : RowChange → List Term
change_terms Version = op2 (Compare Eq Binary) (col 1 0) (col 0 0) ∷ []
change_terms Marks = op2 (Compare Eq Binary) (col 1 0) (col 0 0) ∷ []
change_terms Duration = op2 (Compare Eq Binary) (col 1 0) (col 0 0) ∷ []
change_terms ItemName = op2 (Compare Eq Binary) (col 1 1) (col 0 0) ∷ op2 (Compare Eq Binary) (col 1 2) (col 0 1) ∷ []
change_terms Digest = op2 (Compare Eq Binary) (col 1 1) (col 0 0) ∷ []
change_terms RejudgingState = op2 (Compare Eq Binary) (col 1 0) (col 0 0) ∷ []
change_terms MemberState = op2 (Compare Eq Binary) (col 1 1) (col 0 0) ∷ op2 (Compare Eq Binary) (col 1 2) (col 0 1) ∷ []
change_terms Cell = op2 (Compare Eq Binary) (col 1 1) (col 0 0) ∷ op2 (Compare Eq Binary) (col 1 2) (col 0 1) ∷ op2 (Compare Eq Binary) (col 1 3) (col 0 2) ∷ []

-- the number of the row, and the row that takes its place
abbrev pub row_terms : RowChange → List Term
row_terms Version = col 1 0 ∷ col 1 0 ∷ lit Null ∷ col 0 1 ∷ []
row_terms Marks =
    col 1 0 ∷ col 1 0 ∷ lit Null ∷ col 1 2 ∷ col 1 3 ∷ col 1 4 ∷ col 1 5 ∷ col 1 6 ∷ col 1 7 ∷ col 1 8 ∷ col 1 9 ∷ col 1 10 ∷ col 0 1 ∷ col 0 2 ∷ col 0 3 ∷ []
row_terms Duration =
    col 1 0 ∷ col 1 0 ∷ lit Null ∷ col 1 2 ∷ col 1 3 ∷ col 0 1 ∷ col 0 2 ∷ col 1 6 ∷ col 1 7 ∷ col 1 8 ∷ col 1 9 ∷ col 1 10 ∷ col 1 11 ∷ col 1 12 ∷ col 1 13 ∷ []
row_terms ItemName =
    col 1 0 ∷ col 1 0 ∷ col 1 1 ∷ col 1 2 ∷ col 1 3 ∷ col 0 2 ∷ col 1 5 ∷ col 1 6 ∷ col 1 7 ∷ col 1 8 ∷ col 1 9 ∷ []
row_terms Digest = col 1 0 ∷ col 1 0 ∷ col 1 1 ∷ col 1 2 ∷ col 1 3 ∷ col 0 1 ∷ []
row_terms RejudgingState = col 1 0 ∷ col 1 0 ∷ lit Null ∷ col 1 2 ∷ col 0 1 ∷ []
row_terms MemberState = col 1 0 ∷ col 1 0 ∷ col 1 1 ∷ col 1 2 ∷ col 1 3 ∷ col 1 4 ∷ col 0 2 ∷ col 0 3 ∷ col 0 4 ∷ []
row_terms Cell = col 1 0 ∷ col 1 0 ∷ col 1 1 ∷ col 1 2 ∷ col 1 3 ∷ col 0 3 ∷ col 0 4 ∷ col 0 5 ∷ col 0 6 ∷ []

abbrev pub change_query : RowChange → Query
change_query change = record {
  from = inner (form_of (table_of_change change)).tree end;
  filter = change_terms change;
  group = None;
  project = row_terms change;
  distinct = false;
  collations = [];
  order = [];
  limit = lit (Int (negsuc 0));
  offset = lit (Int (pos 0));
}

-- the text changes the row
pub record Changes (change : RowChange) (sql : List ℕ) : Type 0 where
  pub is : command_of (understood desk_schema sql) ≡ Update (index_of (table_of_change change)) (record { lets = []; body = change_query change })
  pub plain : IsPlain (understood desk_schema sql)

-- the columns hold the row as it is
abbrev pub IsHeld : Table → Row → Type 0
IsHeld t row = show t (cast_row t (eval_all (given_terms t) (row ∷ []))) ≡ row

-- these are the rows after the change
pub record AreChanged (change : RowChange) (given : Row) (rows next : List Row) : Type 0 where
  pub is : next ≡ map (change_row change given) rows
  pub held : All (IsHeld (form_of (table_of_change change))) next
  pub rises : Rises (table_of_change change) next

-- the row is changed, and the other tables are as they were
abbrev pub HasChanged : RowChange → Row → Holding
HasChanged change given s now kept =
    (rows : TableRows) (next : List Row) → now ≡ Showing rows → AreChanged change given (rows (table_of_change change)) next
    → Within s (Showing (with_rows (table_of_change change) next rows)) kept
