-- Lists of rows that rise by the numbers or the text in their first cells.
use Rattle.std.proofs.Common.{◌≡◌, ◌∙◌, ℕ, ◌+◌, ◌<◌, ◌≤◌, List, [], ◌∷◌, ◌++◌, refl, ap, arith, Ordering, Less, Equal, Greater, is_lt, nat_cmp}
use Rattle.std.specs.Prelude.{IsTrue, pos}
use Rattle.std.specs.Cmp.Lexicographic.{slice_cmp}
use Rattle.std.specs.List.{AllByRecursion}
use Rattle.std.specs.Ordering.{ordering_then}
use Rattle.std.proofs.lemmas.Bool.Decides.{nat_tests}
use Rattle.std.proofs.lemmas.Cmp.{tied_itself}
use Rattle.sqlite_keyed.proofs.ListLemmas.{all-append, all_weaker, ascending-append}
use Rattle.sqlite_sql.specs.Query.{key_cmp}
use Rattle.sqlite_trees.specs.Tree.{IsAscending}
use Rattle.sqlite_value.specs.declared.value.Value.{Value}
use Rattle.sqlite_value.specs.declared.value.Value.TheVariants.{Text}
use Rattle.sqlite_value.specs.Keys.{rising}
use Rattle.sqlite_value.specs.Order.{Row, column, value_cmp}
use Rattle.sqlite_value.proofs.OrderLemmas.{value_cmp-Int, value_cmp-Text, value_cmp_total}
use Rattle.contest_store_rows.specs.Cells.{number}
use Rattle.contest_store_rows.proofs.ListLaws.{rows_from}

-- numbers and texts as values
number_before : (m n : ℕ) → m < n → value_cmp (number m) (number n) ≡ Less
number_before m n l = value_cmp-Int (pos m) (pos n) ∙ grind (arith, nat_tests, l)

pub lower_number : (m n : ℕ) (o : Ordering) → m < n → ordering_then (value_cmp (number m) (number n)) o ≡ Less
lower_number m n o l = ap (λ first. ordering_then first o) (number_before m n l)

same_number : (n : ℕ) (o : Ordering) → o ≡ Less → ordering_then (value_cmp (number n) (number n)) o ≡ Less
same_number n o next = ap (λ first. ordering_then first o) (tied_itself value_cmp_total (number n)) ∙ next

is_less : (o : Ordering) → IsTrue (is_lt o) → ordering_then o Equal ≡ Less
is_less Less t = refl
is_less Equal t = absurd (cc t)
is_less Greater t = absurd (cc t)

pub lower_text : (s t : List ℕ) → IsTrue (is_lt (slice_cmp nat_cmp s t)) → ordering_then (value_cmp (Text s) (Text t)) Equal ≡ Less
lower_text s t before = ap (λ first. ordering_then first Equal) (value_cmp-Text s t) ∙ is_less (slice_cmp nat_cmp s t) before

-- rows that are counted from a number
pub all_rows : {X : Type 0} (P : Row → Type 0) (row : ℕ → X → Row) → ((n : ℕ) (x : X) → P (row n x)) → (n : ℕ) (xs : List X) → AllByRecursion P (rows_from row n xs)
all_rows P row each n [] = tt
all_rows P row each n (x ∷ xs) = (each n x, all_rows P row each (n + 1) xs)

later_rows : {X : Type 0} (R : Row → Row → Type 0) (row : ℕ → X → Row) → ((m n : ℕ) (x y : X) → m < n → R (row m x) (row n y)) →
    (m n : ℕ) (x : X) (ys : List X) → m < n → AllByRecursion (R (row m x)) (rows_from row n ys)
later_rows R row before m n x [] l = tt
later_rows R row before m n x (y ∷ ys) l = (before m n x y l, later_rows R row before m (n + 1) x ys (omega (arith, l)))

pub rows_rise : {X : Type 0} (R : Row → Row → Type 0) (row : ℕ → X → Row) → ((m n : ℕ) (x y : X) → m < n → R (row m x) (row n y)) → (n : ℕ) (xs : List X) → IsAscending R (rows_from row n xs)
rows_rise R row before n [] = tt
rows_rise R row before n (x ∷ xs) = (later_rows R row before n (n + 1) x xs (omega arith), rows_rise R row before (n + 1) xs)

-- rows whose key is two numbers
abbrev pub IsBelow : Row → Row → Type 0
IsBelow a b = key_cmp 0 (rising 2 []) a b ≡ Less

-- the first number is this, or above it
abbrev pub IsFrom : ℕ → Row → Type 0
IsFrom k r = (j : ℕ) × (k ≤ j) × (column r 0 ≡ number j)

pub record RiseFrom (k : ℕ) (rows : List Row) : Type 0 where
  pub rises : IsAscending IsBelow rows
  pub from : AllByRecursion (IsFrom k) rows

-- the row of a first number and a second, with what else is in it
abbrev pub of_group : {X : Type 0} → ℕ → (ℕ → X → Row) → ℕ → X → Row
of_group k tail n x = number k ∷ number n ∷ tail n x

lower_value : (k j : ℕ) (v : Value) (o : Ordering) → k < j → v ≡ number j → ordering_then (value_cmp (number k) v) o ≡ Less
lower_value k j v o l is = ap (λ w. ordering_then (value_cmp (number k) w) o) is ∙ lower_number k j o l

below_later : {X : Type 0} (k : ℕ) (tail : ℕ → X → Row) (n : ℕ) (x : X) (r : Row) → IsFrom (k + 1) r → IsBelow (of_group k tail n x) r
below_later k tail n x r from = lower_value k from.0 (column r 0) _ (omega (arith, from.1)) from.2

pub no_group : (k : ℕ) → RiseFrom k []
no_group k = record { rises = tt; from = tt }

-- the rows of one first number, before those of higher ones
pub one_group : {X : Type 0} (k : ℕ) (tail : ℕ → X → Row) (xs : List X) → RiseFrom k (rows_from (of_group k tail) 1 xs)
one_group k tail xs = record {
  rises = rows_rise IsBelow (of_group k tail) (λ m n x y l. same_number k _ (lower_number m n Equal l)) 1 xs;
  from = all_rows (IsFrom k) (of_group k tail) (λ n x. (k, omega arith, refl)) 1 xs;
}

pub next_group : {X : Type 0} (k : ℕ) (tail : ℕ → X → Row) (xs : List X) (rest : List Row) → RiseFrom (k + 1) rest → RiseFrom k (rows_from (of_group k tail) 1 xs ++ rest)
next_group k tail xs rest later =
    let own = one_group k tail xs in
    record {
      rises = ascending-append IsBelow (rows_from (of_group k tail) 1 xs) rest own.rises later.rises
          (all_rows (λ r. AllByRecursion (IsBelow r) rest) (of_group k tail) (λ n x. all_weaker (IsFrom (k + 1)) (IsBelow (of_group k tail n x)) (below_later k tail n x) rest later.from) 1 xs);
      from = all-append (IsFrom k) (rows_from (of_group k tail) 1 xs) rest own.from (all_weaker (IsFrom (k + 1)) (IsFrom k) (λ r f. (f.0, omega (arith, f.1), f.2)) rest later.from);
    }
