-- Tests of lists that go row by row: what a row adds to the test, from those before it.
use Rattle.std.proofs.Common.{◌≡◌, ℕ, ◌+◌, ◌<◌, get_or, take, drop, length, Bool, true, false, List, [], ◌∷◌, ◌++◌, filter, refl, sym, ◌∙◌, ap, inl, inr, append-nil}
use Rattle.std.specs.Prelude.{◌&&◌}
use Rattle.std.specs.List.{list_all}
use Rattle.std.proofs.Math.Bool.{and_assoc}
use Rattle.std.proofs.lemmas.Bool.{cases_Bool, and_parts}
use Rattle.std.proofs.lemmas.List.{append_assoc, drop_more, take_more}
use Rattle.std.proofs.lemmas.List.Folds.{list_all-append}
use Rattle.contest_types.specs.Series.{in_each}
use Rattle.contest_types.proofs.PlaceLemmas.{and_left, and_right, both_true}
use Rattle.contest_types.proofs.SeriesLemmas.{IsTogether, in_each_push, in_any, filter_one_more}
use Rattle.contest_types.proofs.SetupLemmas.{all_wider}

-- the test holds of no rows, and of one row more where it held and the row may follow
pub record Grows {X : Type 0} (test : List X → Bool) (step : List X → X → Bool) : Type 0 where
  pub none : test [] ≡ true
  pub more : (xs : List X) (x : X) → test (xs ++ x ∷ []) ≡ (test xs && step xs x)

-- each row may follow those before it
abbrev pub steps : {X : Type 0} → (List X → X → Bool) → (before xs : List X) → Bool
steps step before [] = true
steps step before (x ∷ xs) = step before x && steps step (before ++ x ∷ []) xs

pub and_true : (b : Bool) → b ≡ (b && true)
and_true true = refl
and_true false = refl

from_steps : {X : Type 0} {test : List X → Bool} {step : List X → X → Bool} → Grows test step → (before xs : List X) → test (before ++ xs) ≡ (test before && steps step before xs)
from_steps {test = test} g before [] = ap test (append-nil before) ∙ and_true (test before)
from_steps {test = test} {step = step} g before (x ∷ xs) =
    ap test (sym (append_assoc before (x ∷ []) xs))
    ∙ (from_steps g (before ++ x ∷ []) xs
    ∙ (ap (λ b. b && steps step (before ++ x ∷ []) xs) (g.more before x)
    ∙ and_assoc (test before) (step before x) (steps step (before ++ x ∷ []) xs)))

-- so it is what each row adds
pub by_steps : {X : Type 0} {test : List X → Bool} {step : List X → X → Bool} → Grows test step → (xs : List X) → test xs ≡ steps step [] xs
by_steps {step = step} g xs = from_steps g [] xs ∙ ap (λ b. b && steps step [] xs) g.none

pub alike_steps : {X : Type 0} {step other : List X → X → Bool} → ((before : List X) (x : X) → step before x ≡ other before x) → (before xs : List X) → steps step before xs ≡ steps other before xs
alike_steps h before [] = refl
alike_steps {step = step} {other = other} h before (x ∷ xs) =
    ap (λ b. b && steps step (before ++ x ∷ []) xs) (h before x) ∙ ap (λ b. other before x && b) (alike_steps h (before ++ x ∷ []) xs)

-- the row at a place, after those before it
pub step_at : {X : Type 0} (step : List X → X → Bool) (xs : List X) (i : ℕ) (x : X) → i < length xs → x ≡ get_or xs i x
    → steps step (take i xs) (drop i xs) ≡ (step (take i xs) x && steps step (take (i + 1) xs) (drop (i + 1) xs))
step_at step xs i x l e =
    let here : drop i xs ≡ x ∷ drop (i + 1) xs = rw (← e) at (drop_more xs i x l) in
    let grown : take (i + 1) xs ≡ take i xs ++ x ∷ [] = rw (← e) at (take_more xs i x l) in
    ap (steps step (take i xs)) here ∙ ap (λ b. step (take i xs) x && steps step b (drop (i + 1) xs)) (sym grown)

-- tests to which each row adds the same are the same
pub alike : {X : Type 0} {test test' : List X → Bool} {step step' : List X → X → Bool} → Grows test step → Grows test' step'
    → ((before : List X) (x : X) → step before x ≡ step' before x) → (xs : List X) → test xs ≡ test' xs
alike g g' h xs = by_steps g xs ∙ (alike_steps h [] xs ∙ sym (by_steps g' xs))

-- each true where the other is
pub one_test : (a b : Bool) → (a ≡ true → b ≡ true) → (b ≡ true → a ≡ true) → a ≡ b
one_test true b to from = sym (to refl)
one_test false true to from = from refl
one_test false false to from = refl

-- what a row adds to a test of all rows that belong together
pub in_each_grows : {X : Type 0} (together : X → X → Bool) {test : List X → Bool} {step : List X → X → Bool} → IsTogether together → Grows test step
    → Grows (in_each together test) (λ before x. step (filter (together x) before) x)
in_each_grows {X} together {test} {step} t g =
    let own : (x : X) → List X → List X = λ x xs. filter (together x) xs in
    let fewer : (xs : List X) (x z : X) → test (own z (xs ++ x ∷ [])) ≡ true → test (own z xs) ≡ true =
    λ xs x z h. elim (cases_Bool (together z x)) [
      | inl e ↦ and_left _ _ (sym (g.more (own z xs) x) ∙ (ap test (sym (filter_one_more (together z) xs x true e)) ∙ h))
      | inr e ↦ ap test (sym (append-nil (own z xs))) ∙ (ap test (sym (filter_one_more (together z) xs x false e)) ∙ h)
    ] in
    let last : (xs : List X) (x : X) → test (own x (xs ++ x ∷ [])) ≡ (test (own x xs) && step (own x xs) x) =
    λ xs x. ap test (filter_one_more (together x) xs x true (t.itself x)) ∙ g.more (own x xs) x in
    let to : (xs : List X) (x : X) → in_each together test (xs ++ x ∷ []) ≡ true → (in_each together test xs && step (own x xs) x) ≡ true =
    λ xs x h. (
    let parts = and_parts _ _ (sym (list_all-append (λ z. test (own z (xs ++ x ∷ []))) xs (x ∷ [])) ∙ h) in
    both_true _ _ (all_wider _ _ (λ z k. fewer xs x z k) xs parts.0) (and_right (test (own x xs)) _ (sym (last xs x) ∙ and_left _ _ parts.1))
    ) in
    let from : (xs : List X) (x : X) → (in_each together test xs && step (own x xs) x) ≡ true → in_each together test (xs ++ x ∷ []) ≡ true =
    λ xs x h. (
    let all = and_left _ _ h in
    in_each_push together test t xs x all (g.more (own x xs) x ∙ both_true _ _ (in_any together test t g.none xs x all) (and_right (in_each together test xs) _ h))
    ) in
    record { none = refl; more = λ xs x. one_test _ _ (to xs x) (from xs x) }

pub both_of_both : (a b c d : Bool) → ((a && b) && (c && d)) ≡ ((a && c) && (b && d))
both_of_both true true c d = refl
both_of_both true false true d = refl
both_of_both true false false d = refl
both_of_both false b c d = refl

-- two tests of all rows
pub all_both : {X : Type 0} (p q : X → Bool) (xs : List X) → list_all (λ x. p x && q x) xs ≡ (list_all p xs && list_all q xs)
all_both p q [] = refl
all_both p q (x ∷ xs) = ap (λ b. (p x && q x) && b) (all_both p q xs) ∙ both_of_both (p x) (q x) (list_all p xs) (list_all q xs)

pub in_each_both : {X : Type 0} (together : X → X → Bool) (p q : List X → Bool) (xs : List X) → in_each together (λ own. p own && q own) xs ≡ (in_each together p xs && in_each together q xs)
in_each_both together p q xs = all_both (λ x. p (filter (together x) xs)) (λ x. q (filter (together x) xs)) xs

-- two tests of which the second is looked at where the first holds
pub and_then : (a b both : Bool) → (a && b) ≡ both → a ≡ true → b ≡ both
and_then a b both h e = ap (λ c. c && b) (sym e) ∙ h

pub and_else : (a b both : Bool) → (a && b) ≡ both → a ≡ false → a ≡ both
and_else a b both h e = e ∙ (ap (λ c. c && b) (sym e) ∙ h)
