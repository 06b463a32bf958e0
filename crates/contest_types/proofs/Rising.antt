-- A list in order is in strict order.
use Rattle.std.proofs.Common.{◌≡◌, ℕ, zero, suc, ◌+◌, ◌<◌, ◌≤◌, Bool, true, false, List, [], ◌∷◌, length, Option, Some, None, refl, sym, ap, ◌∙◌, inl, inr, arith}
use Rattle.std.specs.Prelude.{◌==◌, find, count_by, if◌then◌else◌}
use Rattle.std.specs.List.{cons_option, filter_map, range_with_len}
use Rattle.std.specs.Cmp.{IsTotalOrder}
use Rattle.std.specs.Ordering.{is_lt, ordering_reverse}
use Rattle.std.specs.declared.cmp.Ordering.{Ordering}
use Rattle.std.specs.declared.cmp.Ordering.TheVariants.{Less, Equal, Greater}
use Rattle.std.proofs.Math.Path.{fun_ext}
use Rattle.std.proofs.lemmas.Bool.{false≢true, eqb-true}
use Rattle.contest_types.specs.Order.{Has, IsBefore, IsInOrder, IsStrict, place_in, in_order}
use Rattle.contest_types.proofs.InOrderLemmas.{is_less, place_less, find_has, option_has}

pub place_tied : {X : Type 0} {R : X → X → Ordering} (o : IsTotalOrder R) (xs : List X) (x y : X) → R x y ≡ Equal → place_in R xs x ≡ place_in R xs y
place_tied {X} {R} o xs x y e =
    let same : (z : X) → is_lt (R z x) ≡ is_lt (R z y) = λ z. ap is_lt (o.antisymm z x ∙ (ap ordering_reverse (o.congr x y z e) ∙ sym (o.antisymm z y))) in
    ap (λ p. count_by p xs) (fun_ext same)

-- what has a lower place comes before
lower_before : {X : Type 0} {R : X → X → Ordering} (o : IsTotalOrder R) (xs : List X) (x y : X) → Has xs y → place_in R xs x < place_in R xs y → (r : Ordering) → R x y ≡ r → is_lt (R x y) ≡ true
lower_before o xs x y h l Less i = ap is_lt i
lower_before o xs x y h l Equal i = absurd (omega (arith, l, place_tied o xs x y i))
lower_before o xs x y h l Greater i = absurd (omega (arith, l, place_less o xs y x h (o.antisymm y x ∙ ap ordering_reverse i)))

pub find_passes : {X : Type 0} (p : X → Bool) (xs : List X) (x : X) → find p xs ≡ Some x → p x ≡ true
find_passes p [] x h = absurd (cc h)
find_passes {X} p (y ∷ xs) x h =
    let go : (b : Bool) → p y ≡ b → (if b then Some y else find p xs) ≡ Some x → p x ≡ true =
    elim [ true ↦ λ e k. (let same : y ≡ x = cc k in ap p (sym same) ∙ e) | false ↦ λ e k. find_passes p xs x k ] in
    go (p y) refl h

-- where one that is found was looked for
record LookedFor {X : Type 0} (F : ℕ → Option X) (first : ℕ) (x : X) : Type 0 where
  at : ℕ
  from : first ≤ at
  found : F at ≡ Some x

looked_for : {X : Type 0} (F : ℕ → Option X) (first n : ℕ) (x : X) → Has (filter_map F (range_with_len first n)) x → LookedFor F first x
looked_for F first zero x h = absurd h
looked_for {X} F first (suc n) x h =
    let later : LookedFor F (first + 1) x → LookedFor F first x = λ r. (let from = r.from in record { at = r.at; from = omega arith; found = r.found }) in
    elim (option_has (F first) (filter_map F (range_with_len (first + 1) n)) x h) [ inl e ↦ record { at = first; from = omega arith; found = e } | inr t ↦ later (looked_for F (first + 1) n x t) ]

pub before_all : {X : Type 0} (before : X → X → Bool) (x : X) (ys : List X) → ((y : X) → Has ys y → before x y ≡ true) → IsBefore before x ys
before_all before x [] h = tt
before_all before x (y ∷ ys) h = (h y (inl refl), before_all before x ys (λ z k. h z (inr k)))

in_order_with : {X : Type 0} (before : X → X → Bool) (o : Option X) (xs : List X) → ((x y : X) → o ≡ Some x → Has xs y → before x y ≡ true) → IsInOrder before xs → IsInOrder before (cons_option o xs)
in_order_with before None xs h i = i
in_order_with before (Some x) xs h i = (before_all before x xs (λ y k. h x y refl k), i)

rising_from : {X : Type 0} (before : X → X → Bool) (F : ℕ → Option X) → ((j k : ℕ) (x y : X) → j < k → F j ≡ Some x → F k ≡ Some y → before x y ≡ true) → (first n : ℕ) → IsInOrder before (filter_map F (range_with_len first n))
rising_from before F h first zero = tt
rising_from {X} before F h first (suc n) =
    let rest = filter_map F (range_with_len (first + 1) n) in
    let apart : (x y : X) → F first ≡ Some x → Has rest y → before x y ≡ true =
    λ x y e k. (let r = looked_for F (first + 1) n y k in let from = r.from in h first r.at x y (omega arith) e r.found) in
    in_order_with before (F first) rest apart (rising_from before F h (first + 1) n)

pub rising : {X : Type 0} {R : X → X → Ordering} (o : IsTotalOrder R) (xs : List X) → IsInOrder (λ x y. is_lt (R x y)) (in_order R xs)
rising {X} {R} o xs =
    let test : ℕ → X → Bool = λ k x. place_in R xs x == k in
    let up : (j k : ℕ) (x y : X) → j < k → find (test j) xs ≡ Some x → find (test k) xs ≡ Some y → is_lt (R x y) ≡ true =
    λ j k x y l e f.
    (let low : place_in R xs x ≡ j = eqb-true (place_in R xs x) j (find_passes (test j) xs x e) in
    let high : place_in R xs y ≡ k = eqb-true (place_in R xs y) k (find_passes (test k) xs y f) in
    lower_before o xs x y (find_has (test k) xs y f) (omega (arith, l, low, high)) (R x y) refl) in
    rising_from (λ x y. is_lt (R x y)) (λ k. find (test k) xs) up 0 (length xs)

never_both : (r s : Ordering) → r ≡ ordering_reverse s → is_lt r ≡ true → is_lt s ≡ true → ⊥
never_both r Less e h k = false≢true (ap is_lt (sym e) ∙ h)
never_both r Equal e h k = false≢true k
never_both r Greater e h k = false≢true k

pub strict : {X : Type 0} {R : X → X → Ordering} (o : IsTotalOrder R) → IsStrict (λ x y. is_lt (R x y))
strict {X} {R} o = record {
  trans = λ x y z h k. ap is_lt (o.trans x y z (is_less _ h) (is_less _ k));
  never = λ x y h k. never_both (R x y) (R y x) (o.antisymm x y) h k;
}
