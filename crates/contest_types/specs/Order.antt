-- Lists in order.
use Rattle.std.specs.Prelude.{ℕ, ◌≡◌, ◌⊎◌, ◌==◌, Bool, true, List, [], ◌∷◌, length, count_by, find}
use Rattle.std.specs.List.{filter_map, range_with_len}
use Rattle.std.specs.Ordering.{is_lt, nat_cmp, ordering_then}
use Rattle.std.specs.Cmp.Lexicographic.{slice_cmp}
use Rattle.std.specs.declared.cmp.Ordering.{Ordering}
use Rattle.std.specs.declared.cmp.Ordering.TheVariants.{Equal}

-- by a number that each has
abbrev pub by_number : {X : Type 0} → (X → ℕ) → X → X → Ordering
by_number number x y = nat_cmp (number x) (number y)

-- by such a number, the greatest first
abbrev pub by_most : {X : Type 0} → (X → ℕ) → X → X → Ordering
by_most number x y = nat_cmp (number y) (number x)

-- by the bytes of a text that each has
abbrev pub by_text : {X : Type 0} → (X → List ℕ) → X → X → Ordering
by_text text x y = slice_cmp nat_cmp (text x) (text y)

-- by the first of these orders, then the next, and so on
abbrev pub by_each : {X : Type 0} → List (X → X → Ordering) → X → X → Ordering
by_each [] x y = Equal
by_each (R ∷ []) x y = R x y
by_each (R ∷ (S ∷ Rs)) x y = ordering_then (R x y) (by_each (S ∷ Rs) x y)

-- how many of xs come before x
abbrev pub place_in : {X : Type 0} → (X → X → Ordering) → List X → X → ℕ
place_in R xs x = count_by (λ y. is_lt (R y x)) xs

-- xs in order: at each place the one that so many come before
abbrev pub in_order : {X : Type 0} → (X → X → Ordering) → List X → List X
in_order R xs = filter_map (λ k. find (λ x. place_in R xs x == k) xs) (range_with_len 0 (length xs))

-- x is one of these
abbrev pub Has : {X : Type 0} → List X → X → Type 0
Has [] x = ⊥
Has (y ∷ ys) x = (x ≡ y) ⊎ Has ys x

-- x comes before each of these
abbrev pub IsBefore : {X : Type 0} → (X → X → Bool) → X → List X → Type 0
IsBefore before x [] = Unit {0}
IsBefore before x (y ∷ ys) = (before x y ≡ true) × IsBefore before x ys

-- each comes before all that follow
abbrev pub IsInOrder : {X : Type 0} → (X → X → Bool) → List X → Type 0
IsInOrder before [] = Unit {0}
IsInOrder before (x ∷ xs) = IsBefore before x xs × IsInOrder before xs

-- what comes before another comes before all that it precedes, and nothing comes before what precedes it
pub record IsStrict {X : Type 0} (before : X → X → Bool) : Type 0 where
  pub trans : (x y z : X) → before x y ≡ true → before y z ≡ true → before x z ≡ true
  pub never : (x y : X) → before x y ≡ true → before y x ≡ true → ⊥
