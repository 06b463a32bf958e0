-- Rows of one kind of which no more than so many belong together.
use Rattle.std.proofs.Common.{◌≡◌, ℕ, ◌+◌, Bool, true, false, List, [], ◌∷◌, ◌++◌, length, map, filter, refl, sym, ◌∙◌, ap, arith, append-nil}
use Rattle.std.specs.Prelude.{◌&&◌, ◌||◌, not, nat_le, count_by, if◌then◌else◌}
use Rattle.std.specs.List.{list_all}
use Rattle.std.proofs.lemmas.Bool.Decides.{nat_tests}
use Rattle.std.proofs.lemmas.List.{map-append}
use Rattle.std.proofs.lemmas.List.Elements.{filter-append}
use Rattle.std.proofs.lemmas.List.Sums.{length-filter}
use Rattle.contest_types.specs.Series.{in_each}
use Rattle.contest_types.proofs.SeriesLemmas.{count_push}
use Rattle.contest_store_valid.specs.Numbering.{numbered}
use Rattle.contest_store_valid.proofs.StepLemmas.{Grows, alike, and_true, in_each_grows}
use Rattle.contest_store_valid.proofs.NumberLemmas.{Tells, own_counted}
use Rattle.contest_store_valid.proofs.KeyLemmas.{numbers_grow}
use Rattle.contest_types.proofs.Filters.{filters_swap}

counted_grow : {X : Type 0} (p : X → Bool) (most : ℕ) → Grows (λ xs. nat_le (count_by p xs) most) (λ ys y. not (p y) || nat_le (count_by p ys + 1) most)
counted_grow {X} p most =
    let one : (m n : ℕ) → n ≡ m + 1 → nat_le n most ≡ (nat_le m most && nat_le (m + 1) most) = λ m n e. grind (arith, nat_tests) in
    let none : (m n : ℕ) → n ≡ m + 0 → nat_le n most ≡ (nat_le m most && true) = λ m n e. grind (arith, nat_tests) in
    let go : (xs : List X) (x : X) (b : Bool) → p x ≡ b → nat_le (count_by p (xs ++ x ∷ [])) most ≡ (nat_le (count_by p xs) most && (not b || nat_le (count_by p xs + 1) most)) =
    λ xs x. elim [
      | true ↦ λ e. one (count_by p xs) (count_by p (xs ++ x ∷ [])) (count_push p xs x true e)
      | false ↦ λ e. none (count_by p xs) (count_by p (xs ++ x ∷ [])) (count_push p xs x false e)
    ] in
    record { none = grind (arith, nat_tests); more = λ xs x. go xs x (p x) refl }

kept_grow : {X K : Type 0} (same : K → K → Bool) (key : X → K) (p : X → Bool) (most : ℕ)
    → Grows (λ xs. list_all (λ n. nat_le n most) (numbered same (map key (filter p xs)))) (λ before x. not (p x) || nat_le (count_by (λ j. same j (key x)) (map key (filter p before)) + 1) most)
kept_grow {X} same key p most =
    let test : List X → Bool = λ ys. list_all (λ n. nat_le n most) (numbered same (map key ys)) in
    let go : (ys : List X) (x : X) (b : Bool) → test (ys ++ (if b then x ∷ [] else [])) ≡ (test ys && (not b || nat_le (count_by (λ j. same j (key x)) (map key ys) + 1) most)) =
    λ ys x. elim [
      | true ↦ ap (λ ks. list_all (λ n. nat_le n most) (numbered same ks)) (map-append key ys (x ∷ [])) ∙ (numbers_grow same most).more (map key ys) (key x)
      | false ↦ ap test (append-nil ys) ∙ and_true (test ys)
    ] in
    record { none = refl; more = λ xs x. ap test (filter-append p xs (x ∷ [])) ∙ go (filter p xs) x (p x) }

-- no more than so many of a kind belong together where each of them has a number up to that among its own
pub each_counts_few : {X K : Type 0} {together : X → X → Bool} {same : K → K → Bool} {key : X → K} (p : X → Bool) (most : ℕ) → Tells together same key
    → (xs : List X) → in_each together (λ ys. nat_le (count_by p ys) most) xs ≡ list_all (λ n. nat_le n most) (numbered same (map key (filter p xs)))
each_counts_few {X} {K} {together = together} {same = same} {key = key} p most t xs =
    let own : (before : List X) (x : X) → count_by p (filter (together x) before) ≡ count_by (λ j. same j (key x)) (map key (filter p before)) =
    λ before x. sym (length-filter p (filter (together x) before)) ∙ (ap length (filters_swap p (together x) before) ∙ own_counted t x (filter p before)) in
    alike (in_each_grows together t.laws (counted_grow p most)) (kept_grow same key p most) (λ before x. ap (λ n. not (p x) || nat_le (n + 1) most) (own before x)) xs
