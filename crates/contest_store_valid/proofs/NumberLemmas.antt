-- Tests of rows that belong together, by which of its own each row is.
use Rattle.std.proofs.Common.{◌≡◌, ℕ, suc, ◌+◌, Bool, true, false, List, [], ◌∷◌, ◌++◌, length, map, filter, refl, sym, ◌∙◌, ap, arith, append-nil}
use Rattle.std.specs.Prelude.{◌&&◌, nat_le, nat_eq, count_by, if◌then◌else◌}
use Rattle.std.specs.List.{list_all, range_with_len}
use Rattle.std.specs.Cmp.{IsEquivalence}
use Rattle.std.specs.Cmp.Lexicographic.{pointwise}
use Rattle.std.proofs.Math.Bool.{and_assoc}
use Rattle.std.proofs.lemmas.Bool.Decides.{nat_tests}
use Rattle.std.proofs.lemmas.List.{append_assoc, map-append, length-map, length_push}
use Rattle.std.proofs.lemmas.List.Sums.{length-filter}
use Rattle.std.proofs.lemmas.List.Elements.{filter_agree}
use Rattle.contest_types.specs.Series.{in_each, count_up}
use Rattle.contest_types.proofs.SeriesLemmas.{IsTogether}
use Rattle.contest_store_valid.specs.Numbering.{numbered_after, numbered}
use Rattle.contest_store_valid.proofs.StepLemmas.{Grows, steps, by_steps, alike_steps, in_each_grows, and_true}

-- rows belong together where their keys are the same
pub record Tells {X K : Type 0} (together : X → X → Bool) (same : K → K → Bool) (key : X → K) : Type 0 where
  pub laws : IsTogether together
  pub by_key : (x y : X) → together x y ≡ same (key y) (key x)

pub tells : {X K : Type 0} (together : X → X → Bool) (same : K → K → Bool) (key : X → K) → IsEquivalence same → ((x y : X) → together x y ≡ same (key y) (key x)) → Tells together same key
tells {X} together same key laws h =
    let flip : (x y : X) → together x y ≡ same (key x) (key y) = λ x y. h x y ∙ laws.symm (key y) (key x) in
    record {
      laws = record {
        itself = λ x. h x x ∙ laws.refl (key x);
        same = λ x y z e. flip x z ∙ (laws.congr (key x) (key y) (key z) (sym (flip x y) ∙ e) ∙ sym (flip y z));
      };
      by_key = h;
    }

mapped_count : {X K : Type 0} (q : K → Bool) (key : X → K) (xs : List X) → length (filter q (map key xs)) ≡ length (filter (λ x. q (key x)) xs)
mapped_count q key [] = refl
mapped_count q key (x ∷ xs) =
    let rest = mapped_count q key xs in
    let go : (b : Bool) → length (if b then key x ∷ filter q (map key xs) else filter q (map key xs)) ≡ length (if b then x ∷ filter (λ y. q (key y)) xs else filter (λ y. q (key y)) xs) =
    elim [ true ↦ ap suc rest | false ↦ rest ] in
    go (q (key x))

counted_by_key : {X K : Type 0} (q : K → Bool) (key : X → K) (xs : List X) → count_by q (map key xs) ≡ length (filter (λ x. q (key x)) xs)
counted_by_key q key xs = sym (length-filter q (map key xs)) ∙ mapped_count q key xs

-- of its own rows there are as many as of its own keys
pub own_counted : {X K : Type 0} {together : X → X → Bool} {same : K → K → Bool} {key : X → K} → Tells together same key
    → (x : X) (xs : List X) → length (filter (together x) xs) ≡ count_by (λ j. same j (key x)) (map key xs)
own_counted {together = together} {same = same} {key = key} t x xs =
    ap length (filter_agree (together x) (λ y. same (key y) (key x)) (t.by_key x) xs) ∙ sym (counted_by_key (λ j. same j (key x)) key xs)

numbered_snoc : {K : Type 0} (same : K → K → Bool) (before keys : List K) (k : K)
    → numbered_after same before (keys ++ k ∷ []) ≡ numbered_after same before keys ++ (count_by (λ j. same j k) (before ++ keys) + 1) ∷ []
numbered_snoc same before [] k = ap (λ b. (count_by (λ j. same j k) b + 1) ∷ []) (sym (append-nil before))
numbered_snoc {K} same before (j ∷ ks) k =
    let n : ℕ = count_by (λ i. same i j) before + 1 in
    let counted : List K → List ℕ = λ b. numbered_after same (before ++ j ∷ []) ks ++ (count_by (λ i. same i k) b + 1) ∷ [] in
    ap (λ ns. n ∷ ns) (numbered_snoc same (before ++ j ∷ []) ks k ∙ ap counted (append_assoc before (j ∷ []) ks))

-- what one more key adds
pub numbered_more : {K : Type 0} (same : K → K → Bool) (keys : List K) (k : K) → numbered same (keys ++ k ∷ []) ≡ numbered same keys ++ (count_by (λ j. same j k) keys + 1) ∷ []
numbered_more same keys k = numbered_snoc same [] keys k

numbered_steps : {X K : Type 0} (same : K → K → Bool) (key : X → K) (p : X → ℕ → Bool) (before xs : List X)
    → pointwise p xs (numbered_after same (map key before) (map key xs)) ≡ steps (λ b x. p x (count_by (λ j. same j (key x)) (map key b) + 1)) before xs
numbered_steps same key p before [] = refl
numbered_steps same key p before (x ∷ xs) =
    let n : ℕ = count_by (λ j. same j (key x)) (map key before) + 1 in
    ap (λ ks. p x n && pointwise p xs (numbered_after same ks (map key xs))) (sym (map-append key before (x ∷ [])))
    ∙ ap (λ b. p x n && b) (numbered_steps same key p (before ++ x ∷ []) xs)

-- a test that goes by which of its own each row is
pub in_each_numbered : {X K : Type 0} {together : X → X → Bool} {same : K → K → Bool} {key : X → K} {test : List X → Bool} (p : X → ℕ → Bool)
    → Tells together same key → Grows test (λ ys y. p y (length ys + 1))
    → (xs : List X) → in_each together test xs ≡ pointwise p xs (numbered same (map key xs))
in_each_numbered {together = together} {same = same} {key = key} p t g xs =
    by_steps (in_each_grows together t.laws g) xs
    ∙ (alike_steps (λ b x. ap (λ n. p x (n + 1)) (own_counted t x b)) [] xs ∙ sym (numbered_steps same key p [] xs))

count_from : (first : ℕ) (ns : List ℕ) (n : ℕ) → pointwise nat_eq (ns ++ n ∷ []) (range_with_len first (length (ns ++ n ∷ []))) ≡ (pointwise nat_eq ns (range_with_len first (length ns)) && nat_eq n (first + length ns))
count_from first [] n =
    let e : first ≡ first + 0 = omega arith in
    sym (and_true (nat_eq n first)) ∙ ap (nat_eq n) e
count_from first (m ∷ ns) n =
    let e : (first + 1) + length ns ≡ first + suc (length ns) = omega arith in
    let rest = pointwise nat_eq ns (range_with_len (first + 1) (length ns)) in
    ap (λ b. nat_eq m first && b) (count_from (first + 1) ns n ∙ ap (λ k. rest && nat_eq n k) e) ∙ sym (and_assoc (nat_eq m first) rest (nat_eq n (first + suc (length ns))))

-- one more number counts up where it is the next one
count_up_more : (ns : List ℕ) (n : ℕ) → count_up (ns ++ n ∷ []) ≡ (count_up ns && nat_eq n (length ns + 1))
count_up_more ns n =
    let e : 1 + length ns ≡ length ns + 1 = omega arith in
    count_from 1 ns n ∙ ap (λ k. count_up ns && nat_eq n k) e

count_up_grows : {X : Type 0} (number : X → ℕ) → Grows (λ xs. count_up (map number xs)) (λ ys y. nat_eq (number y) (length ys + 1))
count_up_grows number = record {
  none = refl;
  more = λ xs x.
      ap count_up (map-append number xs (x ∷ [])) ∙ (count_up_more (map number xs) (number x)
      ∙ ap (λ n. count_up (map number xs) && nat_eq (number x) (n + 1)) (length-map xs number));
}

numbers_of : {X : Type 0} (number : X → ℕ) (xs : List X) (ns : List ℕ) → pointwise (λ x n. nat_eq (number x) n) xs ns ≡ pointwise nat_eq (map number xs) ns
numbers_of number [] [] = refl
numbers_of number [] (n ∷ ns) = refl
numbers_of number (x ∷ xs) [] = refl
numbers_of number (x ∷ xs) (n ∷ ns) = ap (λ b. nat_eq (number x) n && b) (numbers_of number xs ns)

-- rows count up where each has the number that it has among its own
pub each_counts_up : {X K : Type 0} {together : X → X → Bool} {same : K → K → Bool} {key : X → K} (number : X → ℕ) → Tells together same key
    → (xs : List X) → in_each together (λ ys. count_up (map number ys)) xs ≡ pointwise nat_eq (map number xs) (numbered same (map key xs))
each_counts_up {same = same} {key = key} number t xs =
    in_each_numbered (λ x n. nat_eq (number x) n) t (count_up_grows number) xs ∙ numbers_of number xs (numbered same (map key xs))

-- rows of which no more than so many belong together
few_grow : {X : Type 0} (most : ℕ) → Grows (λ (xs : List X). nat_le (length xs) most) (λ ys y. nat_le (length ys + 1) most)
few_grow most =
    let go : (m n : ℕ) → n ≡ m + 1 → nat_le n most ≡ (nat_le m most && nat_le (m + 1) most) = λ m n e. grind (arith, nat_tests) in
    record { none = grind (arith, nat_tests); more = λ xs x. go (length xs) (length (xs ++ x ∷ [])) (length_push xs x) }

all_numbers : {X K : Type 0} (same : K → K → Bool) (key : X → K) (q : ℕ → Bool) (before : List K) (xs : List X)
    → pointwise (λ x n. q n) xs (numbered_after same before (map key xs)) ≡ list_all q (numbered_after same before (map key xs))
all_numbers same key q before [] = refl
all_numbers same key q before (x ∷ xs) =
    ap (λ b. q (count_by (λ j. same j (key x)) before + 1) && b) (all_numbers same key q (before ++ key x ∷ []) xs)

-- no more than so many belong together where each has a number up to that among its own
pub each_has_few : {X K : Type 0} {together : X → X → Bool} {same : K → K → Bool} {key : X → K} (most : ℕ) → Tells together same key
    → (xs : List X) → in_each together (λ ys. nat_le (length ys) most) xs ≡ list_all (λ n. nat_le n most) (numbered same (map key xs))
each_has_few {same = same} {key = key} most t xs =
    in_each_numbered (λ x n. nat_le n most) t (few_grow most) xs ∙ all_numbers same key (λ n. nat_le n most) [] xs

read_after : {J K : Type 0} (read : J → K) (same : K → K → Bool) (here : J → J → Bool) → ((i j : J) → here i j ≡ same (read i) (read j)) → (before js : List J)
    → numbered_after here before js ≡ numbered_after same (map read before) (map read js)
read_after read same here h before [] = refl
read_after {J} {K} read same here h before (j ∷ js) =
    let count : count_by (λ i. here i j) before ≡ count_by (λ k. same k (read j)) (map read before) =
    sym (length-filter (λ i. here i j) before) ∙ (ap length (filter_agree (λ i. here i j) (λ i. same (read i) (read j)) (λ i. h i j) before) ∙ sym (counted_by_key (λ k. same k (read j)) read before)) in
    let rest : List K → List ℕ = λ b. numbered_after same b (map read js) in
    ap (λ n. (n + 1) ∷ numbered_after here (before ++ j ∷ []) js) count
    ∙ ap (λ ns. (count_by (λ k. same k (read j)) (map read before) + 1) ∷ ns) (read_after read same here h (before ++ j ∷ []) js ∙ ap rest (map-append read before (j ∷ [])))

-- keys that are read as others are numbered as those are
pub numbered_read : {J K : Type 0} (read : J → K) (same : K → K → Bool) (here : J → J → Bool) → ((i j : J) → here i j ≡ same (read i) (read j)) → (js : List J)
    → numbered here js ≡ numbered same (map read js)
numbered_read read same here h js = read_after read same here h [] js
