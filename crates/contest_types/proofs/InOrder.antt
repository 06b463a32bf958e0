-- A list that is sorted by an order is the list in order, by counting.
use Rattle.std.proofs.Common.{◌≡◌, ◌⊎◌, ℕ, zero, suc, ◌+◌, ◌<◌, ◌≤◌, Bool, true, false, cond, List, [], ◌∷◌, length, take, drop, get_or, Option, Some, refl, sym, ap, ◌∙◌, add-zero, arith, eqb, inl, inr, Ordering, length-drop, length-take}
use Rattle.std.specs.List.{count_by, find, filter_map, range_with_len, Contains}
use Rattle.std.specs.List.Sorted.{IsPermutation}
use Rattle.std.specs.Cmp.{IsTotalOrder}
use Rattle.std.specs.Ordering.{is_lt, ordering_reverse}
use Rattle.std.specs.declared.cmp.Ordering.TheVariants.{Less, Equal, Greater}
use Rattle.std.proofs.lemmas.List.Sorted.{sum_by-IsPermutation, Contains-permutation, IsPermutation-sym, length_permutation}
use Rattle.std.proofs.lemmas.List.Sums.{sum_by-cons, sum_by-take-drop}
use Rattle.std.proofs.lemmas.List.Elements.{Contains-get_or}
use Rattle.std.proofs.lemmas.List.{get_or_default, get_or-take, get_or-drop}
use Rattle.std.proofs.lemmas.Cmp.{tied_itself}
use Rattle.std.proofs.lemmas.Bool.{false≢true, eqb-true, eq-eqb}
use Rattle.contest_types.specs.Order.{place_in, in_order}

-- where all pass, all are counted
pub count_all : {X : Type 0} (p : X → Bool) (ys : List X) → ((i : ℕ) (d : X) → i < length ys → p (get_or ys i d) ≡ true) → count_by p ys ≡ length ys
count_all p [] h = refl
count_all p (y ∷ ys) h =
    let first : p y ≡ true = h 0 y (omega arith) in
    let rest : count_by p ys ≡ length ys = count_all p ys (λ i d l. h (suc i) d (omega arith)) in
    sum_by-cons (λ x. cond (p x) 1 0) y ys ∙ (rw (first, rest) (omega arith))

-- where none pass, none are
pub count_none : {X : Type 0} (p : X → Bool) (ys : List X) → ((i : ℕ) (d : X) → i < length ys → p (get_or ys i d) ≡ false) → count_by p ys ≡ 0
count_none p [] h = refl
count_none p (y ∷ ys) h =
    let first : p y ≡ false = h 0 y (omega arith) in
    let rest : count_by p ys ≡ 0 = count_none p ys (λ i d l. h (suc i) d (omega arith)) in
    sum_by-cons (λ x. cond (p x) 1 0) y ys ∙ (rw (first, rest) refl)

-- where those below k pass, and no others, k are
pub count_front : {X : Type 0} (p : X → Bool) (ys : List X) (k : ℕ) → k ≤ length ys → ((i : ℕ) (d : X) → i < k → p (get_or ys i d) ≡ true) → ((i : ℕ) (d : X) → k ≤ i → i < length ys → p (get_or ys i d) ≡ false) → count_by p ys ≡ k
count_front p ys k l pass fail =
    let long : length (take k ys) ≡ k = omega (arith, length-take k ys) in
    let short : length (drop k ys) + k ≡ length ys = omega (arith, length-drop k ys) in
    let front : count_by p (take k ys) ≡ k = count_all p (take k ys) (λ i d h. let low : i < k = omega arith in rw get_or-take (pass i d low)) ∙ long in
    let back : count_by p (drop k ys) ≡ 0 = count_none p (drop k ys) (λ i d h. rw get_or-drop (fail (k + i) d (omega arith) (omega arith))) in
    sym (sum_by-take-drop (λ x. cond (p x) 1 0) ys k) ∙ (rw (front, back) (add-zero k))

pub in_tail : {X : Type 0} (x : X) (xs : List X) (y : X) → Contains (x ∷ xs) y → (x ≡ y) ⊎ Contains xs y
in_tail x xs y (zero, l, e) = inl e
in_tail x xs y (suc k, l, e) = inr (k, omega arith, e)

in_more : {X : Type 0} (x : X) (xs : List X) (y : X) → Contains xs y → Contains (x ∷ xs) y
in_more x xs y (k, l, e) = (suc k, omega arith, e)

at_head : {X : Type 0} (x : X) (xs : List X) → Contains (x ∷ xs) x
at_head x xs = (0, omega arith, refl)

-- the one that passes is found
find_next : {X : Type 0} (p : X → Bool) (x : X) (xs : List X) (y : X) → Contains (x ∷ xs) y → p y ≡ true → ((z : X) → Contains (x ∷ xs) z → p z ≡ true → z ≡ y) → (b : Bool) → p x ≡ b → (Contains xs y → find p xs ≡ Some y) → find p (x ∷ xs) ≡ Some y
find_next p x xs y m t only true e more = rw e (ap Some (only x (at_head x xs) e))
find_next {X} p x xs y m t only false e more =
    rw e (elim (in_tail x xs y m) [ inl same ↦ absurd (false≢true (sym e ∙ (ap p same ∙ t))) | inr there ↦ more there ])

pub find_only : {X : Type 0} (p : X → Bool) (xs : List X) (y : X) → Contains xs y → p y ≡ true → ((z : X) → Contains xs z → p z ≡ true → z ≡ y) → find p xs ≡ Some y
find_only p [] y (k, l, e) t only = absurd (omega (arith, l))
find_only p (x ∷ xs) y m t only =
    find_next p x xs y m t only (p x) refl (λ there. find_only p xs y there t (λ z c h. only z (in_more x xs z c) h))

pub found_all : {X : Type 0} (F : ℕ → Option X) (ys : List X) (a : ℕ) → ((k : ℕ) (d : X) → k < length ys → F (a + k) ≡ Some (get_or ys k d)) → filter_map F (range_with_len a (length ys)) ≡ ys
found_all F [] a h = refl
found_all F (y ∷ ys) a h =
    let first : F a ≡ Some y = rw (add-zero a) at (h 0 y (omega arith)) in
    let rest : filter_map F (range_with_len (a + 1) (length ys)) ≡ ys = found_all F ys (a + 1) (λ k d l. let e : (a + 1) + k ≡ a + suc k = omega arith in rw e (h (suc k) d (omega arith))) in
    rw (first, rest) refl

-- each stands before those after it
abbrev pub Ascends : {X : Type 0} → (X → X → Ordering) → List X → Type 0
Ascends {X} R ys = (i j : ℕ) (d : X) → i < j → j < length ys → R (get_or ys i d) (get_or ys j d) ≡ Less

at_or_after : (k i : ℕ) → k ≤ i → (k ≡ i) ⊎ (k < i)
at_or_after k i h = grind arith

not_before : {X : Type 0} {R : X → X → Ordering} (o : IsTotalOrder R) (ys : List X) → Ascends R ys → (k : ℕ) (d : X) → k < length ys → (i : ℕ) → k ≤ i → i < length ys → is_lt (R (get_or ys i d) (get_or ys k d)) ≡ false
not_before {X} {R} o ys up k d l i h m = elim (at_or_after k i h) [
  | inl same ↦ (let e : R (get_or ys i d) (get_or ys k d) ≡ Equal = rw same (tied_itself o (get_or ys i d)) in rw e refl)
  | inr later ↦ (let e : R (get_or ys i d) (get_or ys k d) ≡ Greater = o.antisymm (get_or ys i d) (get_or ys k d) ∙ ap ordering_reverse (up k i d later m) in rw e refl)
]

place_at : {X : Type 0} {R : X → X → Ordering} (o : IsTotalOrder R) (ys : List X) → Ascends R ys → (k : ℕ) (d : X) → k < length ys → place_in R ys (get_or ys k d) ≡ k
place_at {X} {R} o ys up k d l =
    count_front (λ y. is_lt (R y (get_or ys k d))) ys k (omega arith)
    (λ i e h. let same : get_or ys i e ≡ get_or ys i d = get_or_default ys i e d (omega arith) in rw (same, up i k d h l) refl)
    (λ i e h m. let same : get_or ys i e ≡ get_or ys i d = get_or_default ys i e d m in rw same (not_before o ys up k d l i h m))

-- the place is the same in any arrangement
pub place_moved : {X : Type 0} (R : X → X → Ordering) (xs ys : List X) → IsPermutation xs ys → (x : X) → place_in R xs x ≡ place_in R ys x
place_moved R xs ys p x = sym (sum_by-IsPermutation (λ y. cond (is_lt (R y x)) 1 0) xs ys p)

only_at : {X : Type 0} {R : X → X → Ordering} (o : IsTotalOrder R) (xs ys : List X) → IsPermutation xs ys → Ascends R ys → (k : ℕ) (d z : X) → k < length ys → Contains xs z → place_in R xs z ≡ k → z ≡ get_or ys k d
only_at {X} {R} o xs ys p up k d z l c h =
    let there : Contains ys z = Contains-permutation xs ys z p c in
    let here : place_in R ys (get_or ys there.0 z) ≡ there.0 = place_at o ys up there.0 z there.1 in
    let same : there.0 ≡ k = sym here ∙ (ap (place_in R ys) there.2 ∙ (sym (place_moved R xs ys p z) ∙ h)) in
    sym there.2 ∙ (ap (λ j. get_or ys j z) same ∙ get_or_default ys k z d l)

pub in_order_is : {X : Type 0} {R : X → X → Ordering} (o : IsTotalOrder R) (xs ys : List X) → IsPermutation xs ys → Ascends R ys → ys ≡ in_order R xs
in_order_is {X} {R} o xs ys p up =
    let found = λ (k : ℕ) (d : X) (l : k < length ys). find_only (λ x. eqb (place_in R xs x) k) xs (get_or ys k d)
    (Contains-permutation ys xs _ (IsPermutation-sym xs ys p) (Contains-get_or ys k d l))
    (eq-eqb _ _ (place_moved R xs ys p (get_or ys k d) ∙ place_at o ys up k d l))
    (λ z c h. only_at o xs ys p up k d z l c (eqb-true _ _ h)) in
    sym (rw (length_permutation xs ys p) at (found_all (λ k. find (λ x. eqb (place_in R xs x) k) xs) ys 0 (λ k d l. let e : 0 + k ≡ k = omega arith in rw e (found k d l))))
