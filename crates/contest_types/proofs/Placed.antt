-- Keys for the places that pass a test, one after another.
use Rattle.std.proofs.Common.{◌≡◌, ℕ, zero, suc, ◌+◌, Bool, true, false, cond, List, [], ◌∷◌, ◌++◌, refl, sym, ap, ◌∙◌, arith, add-one, append-nil, map, All}
use Rattle.std.specs.List.{filter, range_with_len}
use Rattle.std.proofs.lemmas.List.{map-append}
use Rattle.std.proofs.lemmas.List.Elements.{filter-append, All-push}

pub range_more : (a n : ℕ) → range_with_len a (suc n) ≡ range_with_len a n ++ (a + n) ∷ []
range_more a zero = let e : a ≡ a + 0 = omega arith in ap (λ k. k ∷ []) e
range_more a (suc n) = let e : (a + 1) + n ≡ a + suc n = omega arith in ap (λ xs. a ∷ xs) (rw e at (range_more (a + 1) n))

pub range_next : (n : ℕ) → range_with_len 0 (n + 1) ≡ range_with_len 0 n ++ n ∷ []
range_next n = let e : 0 + n ≡ n = omega arith in ap (range_with_len 0) (add-one n) ∙ (rw e at (range_more 0 n))

filter_one : (p : ℕ → Bool) (n : ℕ) (b : Bool) → p n ≡ b → filter p (range_with_len 0 (n + 1)) ≡ filter p (range_with_len 0 n) ++ cond b (n ∷ []) []
filter_one p n b h = ap (filter p) (range_next n) ∙ (filter-append p (range_with_len 0 n) (n ∷ []) ∙ (rw h refl))

-- the keys so far
pub record Placed {K : Type 0} (place : K → ℕ) (good : K → Type 0) (p : ℕ → Bool) (n : ℕ) (keys : List K) : Type 0 where
  pub places : map place keys ≡ filter p (range_with_len 0 n)
  pub told : All good keys

pub Placed-more : {K : Type 0} (place : K → ℕ) (good : K → Type 0) (p : ℕ → Bool) (n : ℕ) (keys : List K) (k : K) → Placed place good p n keys → p n ≡ true → place k ≡ n → good k → Placed place good p (n + 1) (keys ++ k ∷ [])
Placed-more place good p n keys k h t e g = record {
  places = rw (map-append, h.places, filter_one p n true t, e) refl;
  told = All-push good keys k h.told g;
}

pub Placed-past : {K : Type 0} (place : K → ℕ) (good : K → Type 0) (p : ℕ → Bool) (n : ℕ) (keys : List K) → Placed place good p n keys → p n ≡ false → Placed place good p (n + 1) keys
Placed-past place good p n keys h t = record {
  places = h.places ∙ sym (filter_one p n false t ∙ append-nil _);
  told = h.told;
}

-- a key for each place
pub record Listed {K : Type 0} (place : K → ℕ) (good : K → Type 0) (n : ℕ) (keys : List K) : Type 0 where
  pub places : map place keys ≡ range_with_len 0 n
  pub told : All good keys

pub Listed-more : {K : Type 0} (place : K → ℕ) (good : K → Type 0) (n : ℕ) (keys : List K) (k : K) → Listed place good n keys → place k ≡ n → good k → Listed place good (n + 1) (keys ++ k ∷ [])
Listed-more place good n keys k h e g = record {
  places = rw (map-append, h.places, e) (sym (range_next n));
  told = All-push good keys k h.told g;
}

pub map_range_next : {X : Type 0} (f : ℕ → X) (n : ℕ) → map f (range_with_len 0 (n + 1)) ≡ map f (range_with_len 0 n) ++ f n ∷ []
map_range_next f n = ap (map f) (range_next n) ∙ (rw map-append refl)
