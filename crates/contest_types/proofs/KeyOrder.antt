-- What a sort by keys leaves is the places in order.
use Rattle.std.proofs.Common.{◌≡◌, ℕ, ◌+◌, ◌<◌, true, false, List, [], ◌∷◌, length, get_or, refl, sym, ap, ◌∙◌, arith, Ordering, map, take, All}
use Rattle.std.specs.List.{range_with_len, IsDistinct}
use Rattle.std.specs.List.Sorted.{IsPermutation, IsSorted, IsStrictlyIncreasing}
use Rattle.std.specs.Cmp.{IsTotalOrder}
use Rattle.std.specs.Ordering.{is_lt, nat_cmp, eq_by_cmp, ordering_reverse}
use Rattle.std.specs.declared.cmp.Ordering.TheVariants.{Less, Equal, Greater}
use Rattle.std.proofs.lemmas.List.Sorted.{sorted_far, ranks_by, IsPermutation-map, All-permutation}
use Rattle.std.proofs.lemmas.List.{get_or-map, length-map}
use Rattle.std.proofs.lemmas.List.Elements.{All-map, All-take, All-weaker}
use Rattle.std.proofs.lemmas.List.FromFn.{get_or-range_with_len, length-range_with_len}
use Rattle.std.proofs.lemmas.Map.Keys.{IsDistinct-IsPermutation, IsDistinct-from_sorted, sorted_from_strictly_increasing, apart_from_distinct}
use Rattle.std.proofs.lemmas.Cmp.{tied_itself, nat_cmp_total, eq_by_cmp_equiv}
use Rattle.std.proofs.lemmas.Bool.{false≢true}
use Rattle.contest_types.specs.Order.{in_order}
use Rattle.contest_types.proofs.InOrder.{Ascends, in_order_is}

-- c, the order of the keys, follows R, the order of the places, which tells places apart
pub record Follows {K : Type 0} (c : K → K → Ordering) (place : K → ℕ) (good : K → Type 0) (R : ℕ → ℕ → Ordering) : Type 0 where
  pub less : (a b : K) → good a → good b → R (place a) (place b) ≡ Less → c a b ≡ Less
  pub exact : (a b : K) → good a → good b → R (place a) (place b) ≡ Equal → place a ≡ place b

tied_places : (i j : ℕ) → i ≡ j → eq_by_cmp nat_cmp i j ≡ true
tied_places i j e = rw (e, tied_itself nat_cmp_total j) refl

-- of two keys at different places, where the second is not less, the first comes before
step_up : {K : Type 0} {c : K → K → Ordering} (place : K → ℕ) (good : K → Type 0) {R : ℕ → ℕ → Ordering} → IsTotalOrder R → Follows c place good R → (a b : K) → good a → good b → eq_by_cmp nat_cmp (place a) (place b) ≡ false → is_lt (c b a) ≡ false → (o : Ordering) → R (place a) (place b) ≡ o → R (place a) (place b) ≡ Less
step_up place good r f a b ga gb apart up Less e = e
step_up place good r f a b ga gb apart up Equal e = absurd (false≢true (sym apart ∙ tied_places _ _ (f.exact a b ga gb e)))
step_up {K} {c} place good {R} r f a b ga gb apart up Greater e =
    let back : R (place b) (place a) ≡ Less = r.antisymm (place b) (place a) ∙ ap ordering_reverse e in
    absurd (false≢true (sym up ∙ ap is_lt (f.less b a gb ga back)))

ascends_at : {K : Type 0} {c : K → K → Ordering} (oc : IsTotalOrder c) (place : K → ℕ) (good : K → Type 0) {R : ℕ → ℕ → Ordering} → IsTotalOrder R → Follows c place good R → (ks : List K) → All good ks → IsSorted c ks → IsDistinct (eq_by_cmp nat_cmp) (map place ks) → (i j : ℕ) (d : ℕ) (k : K) → i < j → j < length ks → R (get_or (map place ks) i d) (get_or (map place ks) j d) ≡ Less
ascends_at {K} {c} oc place good {R} r f ks all up apart i j d k l m =
    let n : i < length ks = omega (arith, l, m) in
    let at_i : get_or (map place ks) i d ≡ place (get_or ks i k) = get_or-map place ks i k d n in
    let at_j : get_or (map place ks) j d ≡ place (get_or ks j k) = get_or-map place ks j k d m in
    let far : is_lt (c (get_or ks j k) (get_or ks i k)) ≡ false = sorted_far (λ x y. is_lt (c x y)) (ranks_by oc (λ x. x)) ks up i j k (omega (arith, l)) m in
    let differ : eq_by_cmp nat_cmp (place (get_or ks i k)) (place (get_or ks j k)) ≡ false = rw (at_i, at_j) at (apart_from_distinct (eq_by_cmp nat_cmp) (map place ks) i j d apart l (rw length-map m)) in
    rw (at_i, at_j) (step_up place good r f (get_or ks i k) (get_or ks j k) (all i k n) (all j k m) differ far _ refl)

ascends : {K : Type 0} {c : K → K → Ordering} (oc : IsTotalOrder c) (place : K → ℕ) (good : K → Type 0) {R : ℕ → ℕ → Ordering} → IsTotalOrder R → Follows c place good R → (ks : List K) → All good ks → IsSorted c ks → IsDistinct (eq_by_cmp nat_cmp) (map place ks) → Ascends R (map place ks)
ascends oc place good r f [] all up apart i j d l h = absurd (omega (arith, h))
ascends oc place good r f (k ∷ ks) all up apart i j d l h =
    ascends_at oc place good r f (k ∷ ks) all up apart i j d k l (rw length-map at h)

-- places that rise are apart
pub apart_from_rising : (xs : List ℕ) → IsStrictlyIncreasing xs → IsDistinct (eq_by_cmp nat_cmp) xs
apart_from_rising xs up = IsDistinct-from_sorted nat_cmp xs (sorted_from_strictly_increasing xs up)

pub range_rises : (a n : ℕ) → IsStrictlyIncreasing (range_with_len a n)
range_rises a n k l =
    let low : k + 1 < n = omega (arith, length-range_with_len a n) in
    omega (arith, get_or-range_with_len a n k 0 (omega arith), get_or-range_with_len a n (k + 1) 0 low)

pub sorted_keys : {K : Type 0} {c : K → K → Ordering} (oc : IsTotalOrder c) (place : K → ℕ) (good : K → Type 0) {R : ℕ → ℕ → Ordering} → IsTotalOrder R → Follows c place good R → (keys ks : List K) → IsPermutation keys ks → All good keys → IsSorted c ks → IsStrictlyIncreasing (map place keys) → map place ks ≡ in_order R (map place keys)
sorted_keys oc place good r f keys ks p all up rise =
    let moved = IsPermutation-map place keys ks p in
    let apart = IsDistinct-IsPermutation (eq_by_cmp nat_cmp) (eq_by_cmp_equiv nat_cmp_total).symm (map place keys) (map place ks) moved (apart_from_rising _ rise) in
    in_order_is r (map place keys) (map place ks) moved (ascends oc place good r f ks (All-permutation good keys ks p all) up apart)

-- the places of sorted keys are within their bound
pub all_within : {K : Type 0} (place : K → ℕ) (good : K → Type 0) (bound : ℕ) → ((k : K) → good k → place k < bound) → (keys ks : List K) → IsPermutation keys ks → All good keys → (n : ℕ) (order : List ℕ) → order ≡ map place (take n ks) → All (λ p. p < bound) order
all_within place good bound h keys ks p told n order e =
    rw e (All-map (λ p. p < bound) place (take n ks) (All-take (λ k. place k < bound) n ks (All-weaker good (λ k. place k < bound) h ks (All-permutation good keys ks p told))))
