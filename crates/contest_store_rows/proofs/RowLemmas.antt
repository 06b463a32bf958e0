-- Rows that are the same, cell by cell, are one row.
use Rattle.std.proofs.Common.{◌≡◌, ◌∙◌, Bool, true, false, List, [], ◌∷◌, Option, Some, None, refl, ap, ℕ}
use Rattle.std.specs.Bool.{then_some}
use Rattle.std.specs.List.{list_all}
use Rattle.std.specs.Option.{option_and_then}
use Rattle.std.proofs.lemmas.Bool.{false≢true}
use Rattle.std.proofs.lemmas.Bool.Decides.{Decides-int_eq}
use Rattle.std.proofs.lemmas.Slice.Eq.{bytes_eq-Decides}
use Rattle.sqlite.specs.Values.{or_null}
use Rattle.sqlite_value.specs.declared.value.Value.{Value}
use Rattle.sqlite_value.specs.declared.value.Value.TheVariants.{Null, Int, Real, Text, Blob}
use Rattle.sqlite_value.specs.Order.{Row}
use Rattle.contest_types.proofs.PlaceLemmas.{and_left, and_right, both_true}
use Rattle.contest_store_rows.specs.Cells.{number, same_cell, same_row}
use Rattle.contest_store_rows.specs.Readings.{if_its_row}

same_cells : (a b : Value) → same_cell a b ≡ true → a ≡ b
same_cells Null Null t = refl
same_cells (Int m) (Int n) t = ap Int ((Decides-int_eq m n).0 t)
same_cells (Text s) (Text u) t = ap Text ((bytes_eq-Decides s u).0 t)
same_cells (Blob s) (Blob u) t = ap Blob ((bytes_eq-Decides s u).0 t)
same_cells _ _ t = absurd (false≢true t)

pub same_rows : (r t : Row) → same_row r t ≡ true → r ≡ t
same_rows [] [] same = refl
same_rows (x ∷ xs) (y ∷ ys) same = rw (same_cells x y (and_left _ _ same), same_rows xs ys (and_right (same_cell x y) _ same)) refl
same_rows _ _ same = absurd (false≢true same)

-- no cell of a contest is a real number
abbrev pub is_no_real : Value → Bool
is_no_real (Real _) = false
is_no_real _ = true

pub no_real_number : (n : Option ℕ) → is_no_real (or_null number n) ≡ true
no_real_number None = refl
no_real_number (Some n) = refl

itself : (v : Value) → is_no_real v ≡ true → same_cell v v ≡ true
itself Null is = refl
itself (Int n) is = (Decides-int_eq n n).1 refl
itself (Text s) is = (bytes_eq-Decides s s).1 refl
itself (Blob s) is = (bytes_eq-Decides s s).1 refl
itself (Real x) is = absurd (false≢true is)

pub row_itself : (r : Row) → list_all is_no_real r ≡ true → same_row r r ≡ true
row_itself [] is = refl
row_itself (v ∷ r) is = both_true _ _ (itself v (and_left _ _ is)) (row_itself r (and_right (is_no_real v) _ is))

pub no_real_text : (o : Option (List ℕ)) → is_no_real (or_null Text o) ≡ true
no_real_text None = refl
no_real_text (Some text) = refl

-- what its own row says is read
pub reads_back : {X : Type 0} (row_of : X → Row) (said : Option X) (x : X) → said ≡ Some x → list_all is_no_real (row_of x) ≡ true → option_and_then (if_its_row row_of (row_of x)) said ≡ Some x
reads_back row_of said x is no_real = rw (is, row_itself (row_of x) no_real) refl

kept_row : {X : Type 0} (row_of : X → Row) (r : Row) (x y : X) (b : Bool) → same_row r (row_of x) ≡ b → then_some b x ≡ Some y → r ≡ row_of y
kept_row row_of r x y true same is = same_rows r (row_of x) same ∙ ap row_of (cc is)
kept_row row_of r x y false same is = absurd (cc is)

-- what is read has this row
pub writes_back : {X : Type 0} (row_of : X → Row) (r : Row) (said : Option X) (x : X) → option_and_then (if_its_row row_of r) said ≡ Some x → r ≡ row_of x
writes_back row_of r None x is = absurd (cc is)
writes_back row_of r (Some y) x is = kept_row row_of r y x (same_row r (row_of y)) refl is
