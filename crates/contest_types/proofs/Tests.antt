-- Tests that stand side by side.
use Rattle.std.proofs.Common.{◌≡◌, ℕ, zero, suc, Bool, true, false, List, [], ◌∷◌, get_or, refl}
use Rattle.std.specs.Prelude.{◌&&◌, ◌||◌, cond}
use Rattle.std.specs.List.{AllByRecursion}
use Rattle.contest_types.proofs.PlaceLemmas.{and_left, and_right, both_true}

-- a chain of tests as one test
abbrev pub chain : Bool → List Bool → Bool
chain a [] = a
chain a (b ∷ bs) = chain (a && b) bs

first_of : (a : Bool) (bs : List Bool) → chain a bs ≡ true → a ≡ true
first_of a [] h = h
first_of a (b ∷ bs) h = and_left a b (first_of (a && b) bs h)

-- each test of a chain that holds
pub each_of : (a : Bool) (bs : List Bool) → chain a bs ≡ true → (n : ℕ) → get_or (a ∷ bs) n true ≡ true
each_of a bs h zero = first_of a bs h
each_of a [] h (suc n) = refl
each_of a (b ∷ bs) h (suc zero) = and_right a b (first_of (a && b) bs h)
each_of a (b ∷ bs) h (suc (suc n)) = each_of (a && b) bs h (suc n)

pub all_of : (a : Bool) (bs : List Bool) → a ≡ true → AllByRecursion (λ b. b ≡ true) bs → chain a bs ≡ true
all_of a [] h rest = h
all_of a (b ∷ bs) h rest = all_of (a && b) bs (both_true a b h rest.0) rest.1

-- a chain of two holds where what it asks for was asked for
pub weaker : {a a' b b' : Bool} → (a ≡ true → a' ≡ true) → (b ≡ true → b' ≡ true) → (a && b) ≡ true → (a' && b') ≡ true
weaker {a} {a'} {b} {b'} f g h = both_true a' b' (f (and_left a b h)) (g (and_right a b h))

pub kept : {a : Bool} → a ≡ true → a ≡ true
kept h = h

-- whether a key was seen, once one more was
pub found_last : (b had : Bool) → cond b true had ≡ (had || (b || false))
found_last true true = refl
found_last true false = refl
found_last false true = refl
found_last false false = refl
