-- Rows that belong together, as one more comes to them.
use Rattle.std.proofs.Common.{◌≡◌, ◌⊎◌, ℕ, suc, ◌+◌, Bool, true, false, List, [], ◌∷◌, ◌++◌, length, map, filter, Option, Some, None, refl, sym, ◌∙◌, ap, inl, inr, arith, append-nil}
use Rattle.std.specs.Prelude.{nat_le, nat_lt, count_by, cond}
use Rattle.std.specs.List.{list_all, list_any, filter_map, range_with_len}
use Rattle.std.proofs.lemmas.Bool.{cases_Bool, not-true}
use Rattle.std.proofs.lemmas.Bool.Decides.{nat_tests}
use Rattle.std.proofs.lemmas.List.{length-append}
use Rattle.std.proofs.lemmas.List.Elements.{filter-append, filter_map-append, filter_agree}
use Rattle.std.proofs.lemmas.List.Folds.{list_any-append}
use Rattle.std.proofs.lemmas.List.Sums.{sum_by_push}
use Rattle.std.proofs.lemmas.Slice.Eq.{bytes_eq-Decides}
use Rattle.contest_types.specs.Series.{in_each, count_up, never_fall, have_own_keys, is_new_key}
use Rattle.contest_types.proofs.PlaceLemmas.{and_left, and_right, both_true, different_push, all_push}
use Rattle.contest_types.proofs.SetupLemmas.{all_wider}
use Rattle.contest_types.proofs.Placed.{range_more}

pub filter_one_more : {X : Type 0} (p : X → Bool) (xs : List X) (y : X) (b : Bool) → p y ≡ b → filter p (xs ++ y ∷ []) ≡ filter p xs ++ cond b (y ∷ []) []
filter_one_more p xs y b e = filter-append p xs (y ∷ []) ∙ (rw e refl)

-- rows belong together with the same rows
pub record IsTogether {X : Type 0} (together : X → X → Bool) : Type 0 where
  pub itself : (x : X) → together x x ≡ true
  pub same : (x y z : X) → together x y ≡ true → together x z ≡ together y z

-- one more row that may follow those that it belongs to
pub in_each_push : {X : Type 0} (together : X → X → Bool) (test : List X → Bool) → IsTogether together → (xs : List X) (y : X)
    → in_each together test xs ≡ true → test (filter (together y) xs ++ y ∷ []) ≡ true → in_each together test (xs ++ y ∷ []) ≡ true
in_each_push {X} together test t xs y h next =
    let with_y : (x : X) → together x y ≡ true → test (filter (together x) (xs ++ y ∷ [])) ≡ true =
    λ x e. rw (filter_one_more (together x) xs y true e, filter_agree (together x) (together y) (λ z. t.same x y z e) xs) next in
    let without : (x : X) → together x y ≡ false → test (filter (together x) xs) ≡ true → test (filter (together x) (xs ++ y ∷ [])) ≡ true =
    λ x e g. rw (filter_one_more (together x) xs y false e, append-nil (filter (together x) xs)) g in
    let wider : (x : X) → test (filter (together x) xs) ≡ true → test (filter (together x) (xs ++ y ∷ [])) ≡ true =
    λ x g. elim (cases_Bool (together x y)) [ inl e ↦ with_y x e | inr e ↦ without x e g ] in
    all_push (λ x. test (filter (together x) (xs ++ y ∷ []))) xs y (all_wider _ _ wider xs h) (with_y y (t.itself y))

-- a row that passes, and what all rows pass it passes too; or none passes
abbrev Reached : {X : Type 0} → (X → Bool) → List X → Type 0
Reached {X} p xs = (x : X) × (p x ≡ true) × ((q : X → Bool) → list_all q xs ≡ true → q x ≡ true)

reach : {X : Type 0} (p : X → Bool) (xs : List X) → (filter p xs ≡ []) ⊎ Reached p xs
reach p [] = inl refl
reach {X} p (x ∷ xs) =
    let next : p x ≡ false → (filter p (x ∷ xs) ≡ []) ⊎ Reached p (x ∷ xs) =
    λ e. elim (reach p xs) [ inl none ↦ inl (rw e none) | inr (y, t, all) ↦ inr (y, t, λ q h. all q (and_right (q x) _ h)) ] in
    elim (cases_Bool (p x)) [ inl e ↦ inr (x, e, λ q h. and_left _ _ h) | inr e ↦ next e ]

-- the test holds of the rows of any, also where there are none
pub in_any : {X : Type 0} (together : X → X → Bool) (test : List X → Bool) → IsTogether together → test [] ≡ true → (xs : List X) (y : X)
    → in_each together test xs ≡ true → test (filter (together y) xs) ≡ true
in_any together test t empty xs y h = elim (reach (together y) xs) [
  | inl none ↦ rw none empty
  | inr (x, e, all) ↦ (rw (filter_agree (together y) (together x) (λ z. t.same y x z e) xs) (all (λ z. test (filter (together z) xs)) h))
]

pub some_more : {X : Type 0} (p : X → Bool) (xs ys : List X) → list_any p xs ≡ true → list_any p (xs ++ ys) ≡ true
some_more p xs ys h = list_any-append p xs ys ∙ (rw h refl)

-- the next number
pub count_up_push : (ns : List ℕ) (n : ℕ) → count_up ns ≡ true → n ≡ length ns + 1 → count_up (ns ++ n ∷ []) ≡ true
count_up_push ns n h e =
    let all : ns ≡ range_with_len 1 (length ns) = (bytes_eq-Decides ns (range_with_len 1 (length ns))).0 h in
    let long : length (ns ++ n ∷ []) ≡ suc (length ns) = omega (arith, length-append ns (n ∷ [])) in
    let last : 1 + length ns ≡ n = omega (arith, e) in
    let range : range_with_len 1 (length (ns ++ n ∷ [])) ≡ range_with_len 1 (length ns) ++ n ∷ [] =
    ap (range_with_len 1) long ∙ (range_more 1 (length ns) ∙ ap (λ k. range_with_len 1 (length ns) ++ k ∷ []) last) in
    let grown : ns ++ n ∷ [] ≡ range_with_len 1 (length (ns ++ n ∷ [])) = ap (λ ms. ms ++ n ∷ []) all ∙ sym range in
    (bytes_eq-Decides (ns ++ n ∷ []) (range_with_len 1 (length (ns ++ n ∷ [])))).1 grown

-- a time that is not before the others
pub never_fall_push : (ts : List ℕ) (t : ℕ) → never_fall ts ≡ true → list_all (λ u. nat_le u t) ts ≡ true → never_fall (ts ++ t ∷ []) ≡ true
never_fall_push [] t h l = refl
never_fall_push (u ∷ ts) t h l =
    both_true _ _ (all_push (nat_le u) ts t (and_left _ _ h) (and_left _ _ l)) (never_fall_push ts t (and_right (list_all (nat_le u) ts) _ h) (and_right (nat_le u t) _ l))

-- a new key
pub own_keys_push : (keys : List (Option (List ℕ))) (key : Option (List ℕ)) → have_own_keys keys ≡ true → is_new_key keys key ≡ true → have_own_keys (keys ++ key ∷ []) ≡ true
own_keys_push keys None h e = rw (filter_map-append (λ k. k) keys (None ∷ []), append-nil (filter_map (λ k. k) keys)) h
own_keys_push keys (Some key) h e = rw (filter_map-append (λ k. k) keys (Some key ∷ [])) (different_push (filter_map (λ k. k) keys) key h (not-true _ e))

pub room : (n most : ℕ) → nat_lt n most ≡ true → nat_le (n + 1) most ≡ true
room n most h = grind (arith, nat_tests)

pub count_push : {X : Type 0} (p : X → Bool) (xs : List X) (x : X) (b : Bool) → p x ≡ b → count_by p (xs ++ x ∷ []) ≡ count_by p xs + cond b 1 0
count_push p xs x b h = sum_by_push (λ y. cond (p y) 1 0) xs x ∙ ap (λ v. count_by p xs + cond v 1 0) h

pub list_all_map : {X Y : Type 0} (f : X → Y) (p : Y → Bool) (xs : List X) → list_all (λ x. p (f x)) xs ≡ true → list_all p (map f xs) ≡ true
list_all_map f p [] h = refl
list_all_map f p (x ∷ xs) h = both_true _ _ (and_left _ _ h) (list_all_map f p xs (and_right (p (f x)) _ h))
