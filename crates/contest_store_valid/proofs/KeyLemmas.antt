-- Keys that stand once: as a test of all rows, and by which of those equal to it each one is.
use Rattle.std.proofs.Common.{◌≡◌, ℕ, suc, ◌+◌, ◌<◌, get_or, take, Bool, true, false, List, [], ◌∷◌, ◌++◌, length, map, filter, Option, Some, None, refl, sym, ◌∙◌, ap, arith, append-nil}
use Rattle.std.specs.Prelude.{◌&&◌, ◌||◌, not, nat_le, count_by, if◌then◌else◌}
use Rattle.std.specs.List.{list_all, list_any, filter_map}
use Rattle.std.specs.Option.{option_map}
use Rattle.std.specs.Str.{bytes_eq}
use Rattle.std.proofs.lemmas.Bool.Decides.{nat_tests}
use Rattle.std.proofs.lemmas.Cmp.{nat_list_eq_equiv}
use Rattle.std.proofs.lemmas.List.Elements.{filter_map-append, filter_agree}
use Rattle.std.proofs.lemmas.List.Folds.{list_all-append, list_any-append}
use Rattle.std.proofs.lemmas.List.{map-append, take_more}
use Rattle.std.proofs.lemmas.List.Sums.{length-filter}
use Rattle.std.proofs.Math.Bool.{or-false}
use Rattle.contest_types.specs.Places.{is_among, are_different}
use Rattle.contest_types.specs.Series.{in_each, have_own_keys, is_new_key}
use Rattle.contest_store_valid.specs.Numbering.{numbered}
use Rattle.contest_store_valid.specs.Keys.{keyed, same_keyed}
use Rattle.contest_store_valid.proofs.StepLemmas.{Grows, alike, and_true, in_each_grows}
use Rattle.contest_store_valid.proofs.NumberLemmas.{Tells, numbered_more}

-- no two are the same
abbrev pub different : {K : Type 0} → (K → K → Bool) → List K → Bool
different same [] = true
different same (k ∷ ks) = not (list_any (same k) ks) && different same ks

apart : (a b c d : Bool) → (not (a || b) && (c && not d)) ≡ ((not a && c) && not (b || d))
apart true b c d = refl
apart false true true d = refl
apart false true false d = refl
apart false false c d = refl

snoc : {K : Type 0} (same : K → K → Bool) (ks : List K) (k : K) → different same (ks ++ k ∷ []) ≡ (different same ks && not (list_any (λ j. same j k) ks))
snoc same [] k = refl
snoc same (j ∷ ks) k =
    let before = list_any (same j) ks in
    let any : list_any (same j) (ks ++ k ∷ []) ≡ (before || same j k) = list_any-append (same j) ks (k ∷ []) ∙ ap (λ b. before || b) (or-false (same j k)) in
    ap (λ b. not b && different same (ks ++ k ∷ [])) any
    ∙ (ap (λ b. not (before || same j k) && b) (snoc same ks k)
    ∙ apart before (same j k) (different same ks) (list_any (λ i. same i k) ks))

-- one more that is none of those before it
pub different_grows : {K : Type 0} (same : K → K → Bool) → Grows (different same) (λ ks k. not (list_any (λ j. same j k) ks))
different_grows same = record { none = refl; more = snoc same }

-- all numbers are within a bound
pub numbers_grow : {K : Type 0} (same : K → K → Bool) (most : ℕ) → Grows (λ ks. list_all (λ n. nat_le n most) (numbered same ks)) (λ ks k. nat_le (count_by (λ j. same j k) ks + 1) most)
numbers_grow same most = record {
  none = refl;
  more = λ ks k.
      ap (list_all (λ n. nat_le n most)) (numbered_more same ks k)
      ∙ (list_all-append (λ n. nat_le n most) (numbered same ks) ((count_by (λ j. same j k) ks + 1) ∷ [])
      ∙ ap (λ b. list_all (λ n. nat_le n most) (numbered same ks) && b) (sym (and_true (nat_le (count_by (λ j. same j k) ks + 1) most))));
}

none_kept : {K : Type 0} (p : K → Bool) (ks : List K) → not (list_any p ks) ≡ nat_le (length (filter p ks) + 1) 1
none_kept p [] = refl
none_kept p (k ∷ ks) =
    let rest = none_kept p ks in
    let one : (n : ℕ) → false ≡ nat_le (suc n + 1) 1 = λ n. grind (arith, nat_tests) in
    let go : (b : Bool) → not (b || list_any p ks) ≡ nat_le (length (if b then k ∷ filter p ks else filter p ks) + 1) 1 =
    elim [ true ↦ one (length (filter p ks)) | false ↦ rest ] in
    go (p k)

-- a key that stands nowhere before is the first of its own
pub first_of_its_own : {K : Type 0} (p : K → Bool) (ks : List K) → not (list_any p ks) ≡ nat_le (count_by p ks + 1) 1
first_of_its_own p ks = none_kept p ks ∙ ap (λ n. nat_le (n + 1) 1) (length-filter p ks)

-- no two are the same where each is the first of its own
pub different_numbered : {K : Type 0} (same : K → K → Bool) (ks : List K) → different same ks ≡ list_all (λ n. nat_le n 1) (numbered same ks)
different_numbered same = alike (different_grows same) (numbers_grow same 1) (λ before k. first_of_its_own (λ j. same j k) before)

pub any_same : {X : Type 0} (p q : X → Bool) → ((x : X) → p x ≡ q x) → (xs : List X) → list_any p xs ≡ list_any q xs
any_same p q h [] = refl
any_same p q h (x ∷ xs) = ap (λ b. b || list_any p xs) (h x) ∙ ap (λ b. q x || b) (any_same p q h xs)

texts_differ : (xs : List (List ℕ)) → are_different xs ≡ different (λ x y. bytes_eq y x) xs
texts_differ [] = refl
texts_differ (x ∷ xs) = ap (λ b. not (is_among xs x) && b) (texts_differ xs)

texts_more : (xs : List (List ℕ)) (x : List ℕ) → are_different (xs ++ x ∷ []) ≡ (are_different xs && not (is_among xs x))
texts_more xs x =
    texts_differ (xs ++ x ∷ [])
    ∙ ((different_grows (λ x y. bytes_eq y x)).more xs x
    ∙ (ap (λ b. b && not (list_any (λ y. bytes_eq x y) xs)) (sym (texts_differ xs))
    ∙ ap (λ b. are_different xs && not b) (any_same (bytes_eq x) (λ y. bytes_eq y x) (λ y. nat_list_eq_equiv.symm x y) xs)))

keys_more : (keys : List (Option (List ℕ))) (key : Option (List ℕ)) → have_own_keys (keys ++ key ∷ []) ≡ (have_own_keys keys && is_new_key keys key)
keys_more keys None = ap are_different (filter_map-append (λ k. k) keys (None ∷ []) ∙ append-nil (filter_map (λ k. k) keys)) ∙ and_true (have_own_keys keys)
keys_more keys (Some key) = ap are_different (filter_map-append (λ k. k) keys (Some key ∷ [])) ∙ texts_more (filter_map (λ k. k) keys) key

own_keys_grow : {X : Type 0} (key : X → Option (List ℕ)) → Grows (λ xs. have_own_keys (map key xs)) (λ ys y. is_new_key (map key ys) (key y))
own_keys_grow key = record { none = refl; more = λ xs x. ap have_own_keys (map-append key xs (x ∷ [])) ∙ keys_more (map key xs) (key x) }

-- a key, if there is one, is the first of its own
abbrev first_keyed : {S : Type 0} → (S → S → Bool) → List (S × List ℕ) → S → Option (List ℕ) → Bool
first_keyed same before whose None = true
first_keyed same before whose (Some k) = nat_le (count_by (λ j. same_keyed same j (whose, k)) before + 1) 1

keyed_grow : {X S : Type 0} (same : S → S → Bool) (whose : X → S) (key : X → Option (List ℕ))
    → Grows (λ xs. list_all (λ n. nat_le n 1) (numbered (same_keyed same) (keyed whose key xs))) (λ before x. first_keyed same (keyed whose key before) (whose x) (key x))
keyed_grow {X} {S} same whose key =
    let test : List (S × List ℕ) → Bool = λ ks. list_all (λ n. nat_le n 1) (numbered (same_keyed same) ks) in
    let go : (ks : List (S × List ℕ)) (s : S) (o : Option (List ℕ)) → test (ks ++ filter_map (λ k. k) (option_map (λ k. (s, k)) o ∷ [])) ≡ (test ks && first_keyed same ks s o) =
    λ ks s. elim [
      | None ↦ ap test (append-nil ks) ∙ and_true (test ks)
      | Some k ↦ (numbers_grow (same_keyed same) 1).more ks (s, k)
    ] in
    record { none = refl; more = λ xs x. ap test (filter_map-append (λ x. option_map (λ k. (whose x, k)) (key x)) xs (x ∷ [])) ∙ go (keyed whose key xs) (whose x) (key x) }

any_keyed : {X S : Type 0} (same : S → S → Bool) (whose : X → S) (key : X → Option (List ℕ)) (w : S) (k : List ℕ) (xs : List X)
    → is_among (filter_map (λ j. j) (map key (filter (λ y. same (whose y) w) xs))) k ≡ list_any (λ j. same_keyed same j (w, k)) (keyed whose key xs)
any_keyed same whose key w k [] = refl
any_keyed same whose key w k (x ∷ xs) =
    let rest = any_keyed same whose key w k xs in
    let F = filter (λ y. same (whose y) w) xs in
    let go : (t : Bool) (o : Option (List ℕ)) → same (whose x) w ≡ t → key x ≡ o
    → is_among (filter_map (λ j. j) (map key (filter (λ y. same (whose y) w) (x ∷ xs)))) k ≡ list_any (λ j. same_keyed same j (w, k)) (keyed whose key (x ∷ xs)) =
    elim [
      | true ↦ elim [ None ↦ λ e f. rw (e, f) rest | Some j ↦ λ e f. rw (e, f, e) (ap (λ b. bytes_eq j k || b) rest) ]
      | false ↦ elim [ None ↦ λ e f. rw (e, f) rest | Some j ↦ λ e f. rw (e, f, e) rest ]
    ] in
    go (same (whose x) w) (key x) refl refl

-- rows that belong together have keys of their own where each key is the first of its own
pub own_keys_numbered : {X S : Type 0} {together : X → X → Bool} {same : S → S → Bool} {whose : X → S} (key : X → Option (List ℕ)) → Tells together same whose
    → (xs : List X) → in_each together (λ ys. have_own_keys (map key ys)) xs ≡ list_all (λ n. nat_le n 1) (numbered (same_keyed same) (keyed whose key xs))
own_keys_numbered {X} {S} {together = together} {same = same} {whose = whose} key t xs =
    let own : (before : List X) (x : X) → filter (together x) before ≡ filter (λ y. same (whose y) (whose x)) before = λ before x. filter_agree (together x) (λ y. same (whose y) (whose x)) (t.by_key x) before in
    let go : (before : List X) (x : X) (o : Option (List ℕ)) → is_new_key (map key (filter (together x) before)) o ≡ first_keyed same (keyed whose key before) (whose x) o =
    λ before x. elim [
      | None ↦ refl
      | Some k ↦
          ap (λ ys. not (is_among (filter_map (λ j. j) (map key ys)) k)) (own before x)
          ∙ (ap not (any_keyed same whose key (whose x) k before) ∙ first_of_its_own (λ j. same_keyed same j (whose x, k)) (keyed whose key before))
    ] in
    alike (in_each_grows together t.laws (own_keys_grow key)) (keyed_grow same whose key) (λ before x. go before x (key x)) xs

-- one more row's key, if it has one
pub keyed_more : {X S : Type 0} (whose : X → S) (key : X → Option (List ℕ)) (xs : List X) (i : ℕ) (x : X) (ks more : List (S × List ℕ)) → i < length xs → x ≡ get_or xs i x
    → ks ≡ keyed whose key (take i xs) → more ≡ ks ++ filter_map (option_map (λ k. (whose x, k))) (key x ∷ []) → more ≡ keyed whose key (take (i + 1) xs)
keyed_more whose key xs i x ks more l e is grown =
    let longer : take (i + 1) xs ≡ take i xs ++ x ∷ [] = rw (← e) at (take_more xs i x l) in
    let last = filter_map (option_map (λ k. (whose x, k))) (key x ∷ []) in
    grown ∙ (ap (λ js. js ++ last) is ∙ (sym (filter_map-append (λ x. option_map (λ k. (whose x, k)) (key x)) (take i xs) (x ∷ [])) ∙ ap (keyed whose key) (sym longer)))
