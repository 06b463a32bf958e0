-- Counts of calls that failed, and what several reads or writes come to.
use Rattle.std.proofs.Common.{◌≡◌, ◌≤◌, ◌==◌, ◌&&◌, ◌+◌, ◌++◌, ◌∷◌, [], ◌∙◌, if◌then◌else◌, refl, ap, ℕ, suc, false, arith, nat_lt, List, Option, length, take, length-append}
use Rattle.std.proofs.lemmas.Bool.Decides.{nat_tests}
use Rattle.std.proofs.lemmas.List.{take-append-le}
use Rattle.std.specs.Io.KnownBytes.{Appends}
use Rattle.std.proofs.KnownBytes.{Appends-trans}
use Rattle.contest_streams.specs.Streams.{AppendsFront, one_more}

is_some : (count : ℕ) → (count ≡ 0 → ⊥) → (count == 0) ≡ false
is_some count some = grind (arith, nat_tests, some)

-- a write that took some bytes counts none
pub some_taken : (count wanted old new : ℕ) → (count ≡ 0 → ⊥)
    → new ≡ (if (count == 0) && nat_lt 0 wanted then one_more old else old) → new ≡ old
some_taken count wanted old new some e = e ∙ rw (is_some count some) refl

-- a front of the first text is one of both
pub front_first : (a b : Option (List ℕ)) (xs ys : List ℕ) → AppendsFront a b xs → AppendsFront a b (xs ++ ys)
front_first a b xs ys (k, within, p) =
    let short : k ≤ length xs = within in
    let same : take k (xs ++ ys) ≡ take k xs = take-append-le k xs ys short in
    (k, omega (arith, within, length-append xs ys), rw same p)

take_past : (xs ys : List ℕ) (k : ℕ) → take (length xs + k) (xs ++ ys) ≡ xs ++ take k ys
take_past [] ys k = let e : length {A = ℕ} [] + k ≡ k = omega arith in rw e refl
take_past (x ∷ xs) ys k = let e : length (x ∷ xs) + k ≡ suc (length xs + k) = omega arith in rw e (ap (λ t. x ∷ t) (take_past xs ys k))

-- the first text whole, and a front of the second, are a front of both
pub front_second : (a b c : Option (List ℕ)) (xs ys : List ℕ) → Appends a b xs → AppendsFront b c ys → AppendsFront a c (xs ++ ys)
front_second a b c xs ys p (k, within, q) =
    (length xs + k, omega (arith, within, length-append xs ys), rw (take_past xs ys k) (Appends-trans a b c xs (take k ys) p q))
