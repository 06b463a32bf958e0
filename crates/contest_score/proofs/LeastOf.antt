-- In a list that isn't empty, something has the least number.
use Rattle.std.proofs.Common.{◌≡◌, ℕ, ◌<◌, ◌≤◌, Bool, true, ltb, List, [], ◌∷◌, length, refl, ap, inl, inr, arith}
use Rattle.std.specs.List.{list_all}
use Rattle.std.proofs.lemmas.Bool.Decides.{nat_tests}
use Rattle.std.proofs.lemmas.Bool.{cases_lt}
use Rattle.contest_types.specs.Order.{Has}

pub record LeastOf {X : Type 0} (number : X → ℕ) (xs : List X) : Type 0 where
  pub item : X
  pub there : Has xs item
  pub least : (x : X) → Has xs x → number item ≤ number x

with_one : {X : Type 0} (number : X → ℕ) (x : X) (xs : List X) → LeastOf number xs → LeastOf number (x ∷ xs)
with_one {X} number x xs r =
    let bound : (m : ℕ) → m ≤ number x → m ≤ number r.item → (y : X) → Has (x ∷ xs) y → m ≤ number y = λ m low lower y h.
    elim h [ inl e ↦ (let t : number y ≡ number x = ap number e in omega (arith, t, low)) | inr k ↦ (let t = r.least y k in omega (arith, t, lower)) ] in
    elim (cases_lt (number x) (number r.item)) [
      | inl l ↦ record { item = x; there = inl refl; least = bound (number x) (omega arith) (omega (arith, l)) }
      | inr l ↦ record { item = r.item; there = inr r.there; least = bound (number r.item) l (omega arith) }
    ]

least : {X : Type 0} (number : X → ℕ) (x : X) (xs : List X) → LeastOf number (x ∷ xs)
least number x [] = record { item = x; there = inl refl; least = λ y h. elim h [ inl e ↦ (let t : number y ≡ number x = ap number e in omega (arith, t)) | inr k ↦ absurd k ] }
least number x (y ∷ xs) = with_one number x (y ∷ xs) (least number y xs)

pub least_of : {X : Type 0} (number : X → ℕ) (xs : List X) (x : X) → Has xs x → LeastOf number xs
least_of number [] x h = absurd h
least_of number (y ∷ xs) x h = least number y xs

pub some_length : {X : Type 0} (xs : List X) (x : X) → Has xs x → 0 < length xs
some_length [] x h = absurd h
some_length (y ∷ xs) x h = omega arith

pub is_lt_zero : (n : ℕ) → 0 < n → ltb 0 n ≡ true
is_lt_zero n h = grind (arith, nat_tests)

pub has_all : {X : Type 0} (p : X → Bool) (xs : List X) → ((x : X) → Has xs x → p x ≡ true) → list_all p xs ≡ true
has_all p [] h = refl
has_all p (x ∷ xs) h = rw (h x (inl refl), has_all p xs (λ y k. h y (inr k))) refl
