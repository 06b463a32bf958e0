-- Whole lists and the rows of their tables, one to one.
use Rattle.std.proofs.Common.{◌≡◌, ◌∙◌, ℕ, ◌+◌, List, [], ◌∷◌, ◌++◌, length, map, Option, Some, None, refl, ap, arith}
use Rattle.std.specs.List.{AllByRecursion, enumerate_from}
use Rattle.std.specs.Option.{option_and_then, option_map}
use Rattle.sqlite_value.specs.Order.{Row}
use Rattle.contest_store_rows.specs.Laws.{ListsReadBack, ListsWriteBack}
use Rattle.contest_store_rows.specs.Lists.{list_from}

-- the rows of a list, counted from a number
abbrev pub rows_from : {X : Type 0} → (ℕ → X → Row) → ℕ → List X → List Row
rows_from row n xs = map (λ p. row p.0 p.1) (enumerate_from n xs)

-- the list with one more has one more row
pub one_more : {X : Type 0} (row : ℕ → X → Row) (n : ℕ) (xs : List X) (x : X) → rows_from row n (xs ++ x ∷ []) ≡ rows_from row n xs ++ row (length xs + n) x ∷ []
one_more row n [] x =
    let first : 0 + n ≡ n = omega arith in
    rw first refl
one_more row n (y ∷ ys) x =
    let count : length ys + (n + 1) ≡ length (y ∷ ys) + n = omega arith in
    ap (λ rows. row n y ∷ rows) (one_more row (n + 1) ys x ∙ ap (λ m. rows_from row (n + 1) ys ++ row m x ∷ []) count)

pub list_back : {X : Type 0} (IsWritable : X → Type 0) (row : ℕ → X → Row) (row_in : ℕ → Row → Option X) → ((n : ℕ) (x : X) → IsWritable x → row_in n (row n x) ≡ Some x) →
    (n : ℕ) (xs : List X) → AllByRecursion IsWritable xs → list_from row_in n (rows_from row n xs) ≡ Some xs
list_back IsWritable row row_in back n [] all = refl
list_back IsWritable row row_in back n (x ∷ xs) all = rw (back n x all.0, list_back IsWritable row row_in back (n + 1) xs all.1) refl

-- the first and the rest of what was read
pub record Parts {X : Type 0} (first : Option X) (rest : Option (List X)) (xs : List X) : Type 0 where
  pub x : X
  pub others : List X
  pub whole : xs ≡ x ∷ others
  pub first_is : first ≡ Some x
  pub rest_is : rest ≡ Some others

pub parts : {X : Type 0} (first : Option X) (rest : Option (List X)) (xs : List X) → option_and_then (λ x. option_map (λ ys. x ∷ ys) rest) first ≡ Some xs → Parts first rest xs
parts None rest xs is = absurd (cc is)
parts (Some x) None xs is = absurd (cc is)
parts (Some x) (Some ys) xs is = record { x = x; others = ys; whole = cc is; first_is = refl; rest_is = refl }

pub next_written : {X : Type 0} (row : ℕ → X → Row) (n : ℕ) (r : Row) (rows : List Row) (xs : List X) (x : X) (others : List X) → xs ≡ x ∷ others → r ≡ row n x → rows ≡ rows_from row (n + 1) others → r ∷ rows ≡ rows_from row n xs
next_written row n r rows xs x others whole first rest = rw (whole, first, rest) refl

pub list_written : {X : Type 0} (row : ℕ → X → Row) (row_in : ℕ → Row → Option X) → ((n : ℕ) (r : Row) (x : X) → row_in n r ≡ Some x → r ≡ row n x) →
    (n : ℕ) (rows : List Row) (xs : List X) → list_from row_in n rows ≡ Some xs → rows ≡ rows_from row n xs
list_written row row_in back n [] xs is =
    let none : xs ≡ [] = cc is in
    rw none refl
list_written row row_in back n (r ∷ rows) xs is =
    let p = parts (row_in n r) (list_from row_in (n + 1) rows) xs is in
    next_written row n r rows xs p.x p.others p.whole (back n r p.x p.first_is) (list_written row row_in back (n + 1) rows p.others p.rest_is)

pub lists_read_back : (X : Type 0) → ListsReadBack X
lists_read_back X row row_in xs all = list_back (λ x. (n : ℕ) → row_in n (row n x) ≡ Some x) row row_in (λ n x w. w n) 1 xs all

pub lists_write_back : (X : Type 0) → ListsWriteBack X
lists_write_back X row row_in back rows xs is = list_written row row_in back 1 rows xs is
