-- Attempts by contest time, as a stable sort leaves them.
use Rattle.std.proofs.Common.{◌≡◌, ◌≤◌, ◌<◌, ◌∙◌, ℕ, suc, Bool, true, false, cond, List, [], ◌∷◌, length, get_or, map, None, refl, sym, ap, inl, inr, arith}
use Rattle.std.specs.Prelude.{◌&&◌, not, nat_eq, nat_le, nat_lt, filter}
use Rattle.std.specs.List.{list_all}
use Rattle.std.specs.List.Sorted.{IsNonDecreasingBy, IsStableByKey, ties}
use Rattle.std.specs.Ordering.{is_lt, nat_cmp}
use Rattle.std.proofs.lemmas.Bool.{cases_Bool, false≢true, eqb-true, eq-eqb, leb-true, leb-false, le-leb, ltb-true, ltb-false}
use Rattle.std.specs.declared.cmp.Ordering.TheVariants.{Less, Equal, Greater}
use Rattle.contest_types.specs.Series.{never_fall}
use Rattle.contest_types.proofs.PlaceLemmas.{and_left, and_right, both_true}
use Rattle.contest_score.specs.declared.submission.JudgedSubmission.{JudgedSubmission}
use Rattle.contest_feed_reader.specs.FeedContests.{by_time, put_by_time}

abbrev times : List JudgedSubmission → List ℕ
times us = map (λ u. u.time) us

-- an attempt at a time
abbrev at : ℕ → JudgedSubmission → Bool
at k u = nat_eq u.time k

not_both : (a b k : ℕ) → nat_le a b ≡ false → nat_eq b k ≡ true → nat_eq a k ≡ true → ⊥
not_both a b k l e f =
    let less : b < a = leb-false a b l in
    let same : b ≡ k = eqb-true b k e in
    let also : a ≡ k = eqb-true a k f in
    omega (arith, less, same, also)

swapped : (k : ℕ) (u v : JudgedSubmission) (vs : List JudgedSubmission) (b c : Bool) → nat_eq v.time k ≡ b → nat_eq u.time k ≡ c → nat_le u.time v.time ≡ false
    → filter (at k) (put_by_time u vs) ≡ cond c (u ∷ filter (at k) vs) (filter (at k) vs)
    → cond b (v ∷ filter (at k) (put_by_time u vs)) (filter (at k) (put_by_time u vs)) ≡ cond c (u ∷ cond b (v ∷ filter (at k) vs) (filter (at k) vs)) (cond b (v ∷ filter (at k) vs) (filter (at k) vs))
swapped k u v vs true true e f l h = absurd (not_both u.time v.time k l e f)
swapped k u v vs true false e f l h = ap (λ rest. v ∷ rest) h
swapped k u v vs false true e f l h = h
swapped k u v vs false false e f l h = h

-- an attempt that is put stands before those at its time
put_at : (k : ℕ) (u : JudgedSubmission) (vs : List JudgedSubmission) → filter (at k) (put_by_time u vs) ≡ filter (at k) (u ∷ vs)
put_at k u [] = refl
put_at k u (v ∷ vs) = elim (cases_Bool (nat_le u.time v.time)) [
  | inl l ↦ rw l refl
  | inr l ↦ rw l (swapped k u v vs (nat_eq v.time k) (nat_eq u.time k) refl refl l (put_at k u vs))
]

all_at : (k : ℕ) (us : List JudgedSubmission) → filter (at k) (by_time us) ≡ filter (at k) us
all_at k [] = refl
all_at k (u ∷ us) = put_at k u (by_time us) ∙ ap (λ rest. cond (at k u) (u ∷ rest) rest) (all_at k us)

-- times from one on are times from an earlier one on
from_earlier : (a b : ℕ) (ts : List ℕ) → nat_le a b ≡ true → list_all (nat_le b) ts ≡ true → list_all (nat_le a) ts ≡ true
from_earlier a b [] l h = refl
from_earlier a b (t ∷ ts) l h =
    let first : nat_le a t ≡ true = le-leb a t (omega (arith, leb-true a b l, leb-true b t (and_left (nat_le b t) (list_all (nat_le b) ts) h))) in
    both_true _ _ first (from_earlier a b ts l (and_right (nat_le b t) _ h))

put_from : (a : ℕ) (u : JudgedSubmission) (vs : List JudgedSubmission) → nat_le a u.time ≡ true → list_all (nat_le a) (times vs) ≡ true → list_all (nat_le a) (times (put_by_time u vs)) ≡ true
put_from a u [] l h = both_true _ _ l refl
put_from a u (v ∷ vs) l h = elim (cases_Bool (nat_le u.time v.time)) [
  | inl k ↦ rw k (both_true _ _ l h)
  | inr k ↦ rw k (both_true _ _ (and_left (nat_le a v.time) (list_all (nat_le a) (times vs)) h) (put_from a u vs l (and_right (nat_le a v.time) _ h)))
]

put_rises : (u : JudgedSubmission) (vs : List JudgedSubmission) → never_fall (times vs) ≡ true → never_fall (times (put_by_time u vs)) ≡ true
put_rises u [] h = refl
put_rises u (v ∷ vs) h =
    let from : list_all (nat_le v.time) (times vs) ≡ true = and_left _ (never_fall (times vs)) h in
    let rest : never_fall (times vs) ≡ true = and_right (list_all (nat_le v.time) (times vs)) _ h in
    elim (cases_Bool (nat_le u.time v.time)) [
      | inl k ↦ rw k (both_true _ _ (both_true _ _ k (from_earlier u.time v.time (times vs) k from)) h)
      | inr k ↦ (let less : nat_le v.time u.time ≡ true = le-leb v.time u.time (omega (arith, leb-false u.time v.time k)) in
          rw k (both_true _ _ (put_from v.time u vs less from) (put_rises u vs rest)))
    ]

-- attempts by time never fall
pub rising : (us : List JudgedSubmission) → never_fall (map (λ u. u.time) (by_time us)) ≡ true
rising [] = refl
rising (u ∷ us) = put_rises u (by_time us) (rising us)

none_before : (k : ℕ) (us : List JudgedSubmission) (t : ℕ) → k < t → list_all (nat_le t) (times us) ≡ true → filter (at k) us ≡ []
none_before k [] t l h = refl
none_before k (u ∷ us) t l h =
    let later : t ≤ u.time = leb-true t u.time (and_left (nat_le t u.time) (list_all (nat_le t) (times us)) h) in
    let other : nat_eq u.time k ≡ false = ne (λ e. omega (arith, l, later, e)) in
    rw other (none_before k us t l (and_right (nat_le t u.time) _ h))
  where
    ne : (u.time ≡ k → ⊥) → nat_eq u.time k ≡ false
    ne n = elim (cases_Bool (nat_eq u.time k)) [ inl e ↦ absurd (n (eqb-true u.time k e)) | inr f ↦ f ]

self : (k : ℕ) → nat_eq k k ≡ true
self k = eq-eqb k k refl

first_at : (y : JudgedSubmission) (ys : List JudgedSubmission) → filter (at y.time) (y ∷ ys) ≡ y ∷ filter (at y.time) ys
first_at y ys = rw (self y.time) refl

-- no list that begins later has an attempt at the first one's time
not_later : (y z : JudgedSubmission) (ys zs : List JudgedSubmission) → y.time < z.time → list_all (nat_le z.time) (times zs) ≡ true → filter (at y.time) (y ∷ ys) ≡ filter (at y.time) (z ∷ zs) → ⊥
not_later y z ys zs l from h =
    let none : filter (at y.time) (z ∷ zs) ≡ [] = none_before y.time (z ∷ zs) z.time l (both_true _ _ (le-leb z.time z.time (omega arith)) from) in
    cc (sym (first_at y ys) ∙ (h ∙ none))

tail_at : (k : ℕ) (y z : JudgedSubmission) (ys zs : List JudgedSubmission) → y ≡ z → filter (at k) (y ∷ ys) ≡ filter (at k) (z ∷ zs) → filter (at k) ys ≡ filter (at k) zs
tail_at k y z ys zs same h =
    let go : (b : Bool) → nat_eq z.time k ≡ b → cond b (y ∷ filter (at k) ys) (filter (at k) ys) ≡ cond b (z ∷ filter (at k) zs) (filter (at k) zs) → filter (at k) ys ≡ filter (at k) zs = elim [
      | true ↦ λ e f. cc f
      | false ↦ λ e f. f
    ] in
    go (nat_eq z.time k) refl (ap (λ (v : JudgedSubmission). cond (nat_eq v.time k) (y ∷ filter (at k) ys) (filter (at k) ys)) (sym same) ∙ h)

-- lists that never fall and have the same at each time are one
one_order : (ys zs : List JudgedSubmission) → never_fall (times ys) ≡ true → never_fall (times zs) ≡ true → ((k : ℕ) → filter (at k) ys ≡ filter (at k) zs) → ys ≡ zs
one_order [] [] h g same = refl
one_order [] (z ∷ zs) h g same = absurd (cc (same z.time ∙ first_at z zs))
one_order (y ∷ ys) [] h g same = absurd (cc (sym (same y.time) ∙ first_at y ys))
one_order (y ∷ ys) (z ∷ zs) h g same =
    let from_y : list_all (nat_le y.time) (times ys) ≡ true = and_left _ (never_fall (times ys)) h in
    let from_z : list_all (nat_le z.time) (times zs) ≡ true = and_left _ (never_fall (times zs)) g in
    elim (cases_Bool (nat_lt y.time z.time)) [
      | inl l ↦ absurd (not_later y z ys zs (ltb-true y.time z.time l) from_z (same y.time))
      | inr l ↦ elim (cases_Bool (nat_lt z.time y.time)) [
        | inl m ↦ absurd (not_later z y zs ys (ltb-true z.time y.time m) from_y (sym (same z.time)))
        | inr m ↦ (let at_one : y.time ≡ z.time = omega (arith, ltb-false y.time z.time l, ltb-false z.time y.time m) in
            let head : filter (at z.time) (y ∷ ys) ≡ y ∷ filter (at z.time) ys = rw (eq-eqb y.time z.time at_one) refl in
            let here : y ∷ filter (at z.time) ys ≡ z ∷ filter (at z.time) zs = sym head ∙ (same z.time ∙ first_at z zs) in
            let first : y ≡ z = cc here in
            (λ i. first i ∷ one_order ys zs (and_right (list_all (nat_le y.time) (times ys)) _ h) (and_right (list_all (nat_le z.time) (times zs)) _ g) (λ k. tail_at k y z ys zs first (same k)) i))
      ]
    ]

-- what a sort by time ensures
all_from : (t : ℕ) (us : List JudgedSubmission) → ((j : ℕ) (d : JudgedSubmission) → j < length us → t ≤ (get_or us j d).time) → list_all (nat_le t) (times us) ≡ true
all_from t [] h = refl
all_from t (u ∷ us) h = both_true _ _ (le-leb t u.time (h 0 u (omega arith))) (all_from t us (λ j d l. h (suc j) d (omega (arith, l))))

sorted_rises : (us : List JudgedSubmission) → IsNonDecreasingBy (λ u. u.time) us → never_fall (times us) ≡ true
sorted_rises [] h = refl
sorted_rises (u ∷ us) h = both_true _ _ (all_from u.time us (λ j d l. h 0 (suc j) d (omega arith) (omega (arith, l)))) (sorted_rises us (λ i j d l m. h (suc i) (suc j) d (omega (arith, l)) (omega (arith, m))))

lt_is : (a b : ℕ) → is_lt (nat_cmp a b) ≡ nat_lt a b
lt_is a b =
    let go : (x y : Bool) → is_lt (cond x Less (cond y Equal Greater)) ≡ x = elim [ true ↦ λ y. refl | false ↦ elim [ true ↦ refl | false ↦ refl ] ] in
    go (nat_lt a b) (nat_eq a b)

ties_at : (k t : ℕ) → (not (is_lt (nat_cmp k t)) && not (is_lt (nat_cmp t k))) ≡ nat_eq t k
ties_at k t =
    let go : (x y z : Bool) → nat_lt k t ≡ x → nat_lt t k ≡ y → nat_eq t k ≡ z → (not x && not y) ≡ z = elim [
      | true ↦ λ y. elim [ true ↦ λ e f g. absurd (let l = ltb-true k t e in let same = eqb-true t k g in omega (arith, l, same)) | false ↦ λ e f g. refl ]
      | false ↦ elim [
        | true ↦ elim [ true ↦ λ e f g. absurd (let l = ltb-true t k f in let same = eqb-true t k g in omega (arith, l, same)) | false ↦ λ e f g. refl ]
        | false ↦ elim [ true ↦ λ e f g. refl | false ↦ λ e f g. absurd (false≢true (sym g ∙ eq-eqb t k (omega (arith, ltb-false k t e, ltb-false t k f)))) ]
      ]
    ] in
    (λ i. not (lt_is k t i) && not (lt_is t k i)) ∙ go (nat_lt k t) (nat_lt t k) (nat_eq t k) refl refl refl

abbrev one_at : ℕ → JudgedSubmission
one_at k = record { team = 0; problem = 0; time = k; verdict = None }

stable_at : (us vs : List JudgedSubmission) → IsStableByKey (λ u. u.time) nat_cmp us vs → (k : ℕ) → filter (at k) vs ≡ filter (at k) us
stable_at us vs h k =
    let tests : (u : JudgedSubmission) → ties (λ x y. is_lt (nat_cmp x.time y.time)) (one_at k) u ≡ at k u = λ u. ties_at k u.time in
    sym (λ i. filter (λ u. tests u i) vs) ∙ (h (one_at k) ∙ (λ i. filter (λ u. tests u i) us))

-- a stable sort by time leaves attempts by time
pub sorted_is : (us vs : List JudgedSubmission) → IsNonDecreasingBy (λ u. u.time) vs → IsStableByKey (λ u. u.time) nat_cmp us vs → vs ≡ by_time us
sorted_is us vs sorted stable = one_order vs (by_time us) (sorted_rises vs sorted) (rising us) (λ k. stable_at us vs stable k ∙ sym (all_at k us))
