-- What a column makes of values that have its type.
use Rattle.std.proofs.Common.{◌≡◌, ℕ, List, [], ◌∷◌, Bool, true, false, cond, Option, Some, None, refl, ap₂}
use Rattle.std.specs.Prelude.{◌&&◌}
use Rattle.std.proofs.lemmas.Bool.{and_parts}
use Rattle.sqlite.specs.Values.{or_null}
use Rattle.sqlite.specs.Term.{eval_all}
use Rattle.sqlite_rules.specs.Cast.{cast, cast_all, cast_row}
use Rattle.sqlite_schema.specs.declared.schema.Column.{Column}
use Rattle.sqlite_schema.specs.declared.schema.Kind.{Kind}
use Rattle.sqlite_schema.specs.declared.schema.Kind.TheVariants as kind
use Rattle.sqlite_schema.specs.declared.schema.Table.{Table}
use Rattle.sqlite_sql.specs.Ops.{unary}
use Rattle.sqlite_value.specs.Order.{Row}
use Rattle.sqlite_value.specs.declared.value.Value.{Value}
use Rattle.sqlite_value.specs.declared.value.Value.TheVariants.{Null, Int, Text}
use Rattle.contest_store_rows.specs.Cells.{number}
use Rattle.contest_store_tables.specs.Statements.{given_terms}

-- a column of this kind keeps the value as it is: no real number, and no text that may be one
abbrev pub fits : Kind → Value → Bool
fits kind.Integer Null = true
fits kind.Integer (Int n) = true
fits kind.Text Null = true
fits kind.Text (Text t) = true
fits kind.Blob v = true
fits _ _ = false

abbrev pub all_fit : List Column → Row → Bool
all_fit [] [] = true
all_fit (c ∷ cs) (v ∷ vs) = fits c.kind v && all_fit cs vs
all_fit _ _ = false

-- a row of the tree, which begins with its number
abbrev pub row_fits : Table → Row → Bool
row_fits t [] = false
row_fits t (v ∷ vs) = fits kind.Integer v && all_fit t.columns vs

-- a number or a text that may be missing has the type of its column
pub fits_number : (o : Option ℕ) → fits kind.Integer (or_null number o) ≡ true
fits_number None = refl
fits_number (Some n) = refl

pub fits_text : (o : Option (List ℕ)) → fits kind.Text (or_null Text o) ≡ true
fits_text None = refl
fits_text (Some t) = refl

either : (b : Bool) (x : Value) → cond b x x ≡ x
either true x = refl
either false x = refl

-- what has the type of its column stays as it is, and so does a row of such cells
cast_same : (k : Kind) (v : Value) → fits k v ≡ true → cast k v ≡ v
unfolding unary
cast_same kind.Integer Null h = either _ Null
cast_same kind.Integer (Int n) h = either _ (Int n)
cast_same kind.Text Null h = refl
cast_same kind.Text (Text t) h = refl
cast_same kind.Blob v h = refl
cast_same _ _ h = absurd (cc h)

cast_all_same : (columns : List Column) (cells : Row) → all_fit columns cells ≡ true → cast_all columns cells ≡ cells
cast_all_same [] [] h = refl
cast_all_same [] (v ∷ vs) h = absurd (cc h)
cast_all_same (c ∷ cs) [] h = absurd (cc h)
cast_all_same (c ∷ cs) (v ∷ vs) h =
    let both = and_parts (fits c.kind v) _ h in
    ap₂ ◌∷◌ (cast_same c.kind v both.0) (cast_all_same cs vs both.1)

pub cast_row_same : (t : Table) (row : Row) → row_fits t row ≡ true → cast_row t row ≡ row
cast_row_same t [] h = absurd (cc h)
cast_row_same t (v ∷ vs) h =
    let both = and_parts (fits kind.Integer v) _ h in
    ap₂ ◌∷◌ (cast_same kind.Integer v both.0) (cast_all_same t.columns vs both.1)

-- what is put into the tree of the table for a row
abbrev pub put_for : Table → Row → Row
put_for t row = eval_all (given_terms t) (row ∷ [])
