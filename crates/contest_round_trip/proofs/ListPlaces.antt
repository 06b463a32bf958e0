-- Where things stand in lists.
use Rattle.std.proofs.Common.{◌≡◌, ◌∙◌, ◌⊎◌, ◌<◌, ◌+◌, ℕ, zero, suc, Bool, true, false, List, [], ◌∷◌, Some, length, map, get_or, refl, sym, ap, subst, inl, inr, arith, eq-eqb, ne_eqb}
use Rattle.std.specs.Prelude.{◌==◌, unwrap_or}
use Rattle.std.specs.List.{position_from, range_with_len}
use Rattle.std.proofs.lemmas.Bool.{cases_Bool, cases_eq, eqb-true, false≢true}
use Rattle.contest_types.specs.Order.{Has, IsInOrder}
use Rattle.contest_types.proofs.OrderLemmas.{before_each}

pub has_at : {X : Type 0} (xs : List X) (i : ℕ) (d : X) → i < length xs → Has xs (get_or xs i d)
has_at [] i d l = absurd (omega (arith, l))
has_at (x ∷ xs) zero d l = inl refl
has_at (x ∷ xs) (suc i) d l = inr (has_at xs i d (omega (arith, l)))

-- in a list in order what stands earlier is before what stands later
pub before_at : {X : Type 0} (before : X → X → Bool) (xs : List X) → IsInOrder before xs → (i j : ℕ) (d : X) → i < j → j < length xs → before (get_or xs i d) (get_or xs j d) ≡ true
before_at before [] h i j d l m = absurd (omega (arith, m))
before_at before (x ∷ xs) h i zero d l m = absurd (omega (arith, l))
before_at before (x ∷ xs) h zero (suc j) d l m = before_each before x xs (get_or xs j d) h.0 (has_at xs j d (omega (arith, m)))
before_at before (x ∷ xs) h (suc i) (suc j) d l m = before_at before xs h.1 i j d (omega (arith, l)) (omega (arith, m))

-- the place of a number that is one of these
pub record StandsIn (p a : ℕ) (ys : List ℕ) : Type 0 where
  pub at : ℕ
  pub within : at < length ys
  pub is : get_or ys at 0 ≡ p
  pub found : position_from (λ q. q == p) a ys ≡ Some (a + at)

pub stands_in : (p a : ℕ) (ys : List ℕ) → Has ys p → StandsIn p a ys
stands_in p a [] h = absurd h
stands_in p a (y ∷ ys) h = elim (cases_Bool (y == p)) [
  | inl e ↦ record { at = 0; within = omega arith; is = eqb-true y p e; found = rw e (ap Some (omega arith)) }
  | inr e ↦ (let there : Has ys p = elim h [ inl same ↦ absurd (false≢true (sym e ∙ eq-eqb y p (sym same))) | inr later ↦ later ] in
      let r = stands_in p (a + 1) ys there in
      let next : (a + 1) + r.at ≡ a + suc r.at = omega arith in
      record { at = suc r.at; within = omega (arith, r.within); is = r.is; found = rw e (r.found ∙ ap Some next) })
]

-- it is at a place just if that place's number is it, where no number stands twice
pub spot_is : (before : ℕ → ℕ → Bool) → ((p : ℕ) → before p p ≡ false) → (ys : List ℕ) → IsInOrder before ys → (p k : ℕ) → Has ys p → k < length ys
    → (unwrap_or (position_from (λ q. q == p) 0 ys) 0 == k) ≡ (p == get_or ys k 0)
spot_is before never ys up p k h l =
    let s = stands_in p 0 ys h in
    let at : ℕ = s.at in
    let zeroth : unwrap_or (position_from (λ q. q == p) 0 ys) 0 ≡ at = (let zero_first : 0 + at ≡ at = omega arith in ap (λ o. unwrap_or o 0) s.found ∙ zero_first) in
    let apart : (i j : ℕ) → i < j → j < length ys → get_or ys i 0 ≡ get_or ys j 0 → ⊥ =
    λ i j m n e. false≢true (sym (never (get_or ys j 0)) ∙ subst (λ q. before q (get_or ys j 0) ≡ true) e (before_at before ys up i j 0 m n)) in
    ap (λ n. n == k) zeroth ∙ elim (cases_eq at k) [
      | inl same ↦ eq-eqb at k same ∙ sym (eq-eqb p (get_or ys k 0) (sym s.is ∙ ap (λ i. get_or ys i 0) same))
      | inr other ↦ ne_eqb at k other ∙ sym (ne_eqb p (get_or ys k 0) (λ e. elim (sides at k other) [
        | inl less ↦ apart at k less l (s.is ∙ e)
        | inr more ↦ apart k at more s.within (sym e ∙ sym s.is)
      ]))
    ]
  where
    sides : (i j : ℕ) → (i ≡ j → ⊥) → (i < j) ⊎ (j < i)
    sides i j n = grind (arith, n)

-- what is made of each place in turn is what is made of what stands there
pub map_by_place : {Y : Type 0} (f g : ℕ → Y) (ys : List ℕ) (a : ℕ) → ((k : ℕ) → k < length ys → f (a + k) ≡ g (get_or ys k 0)) → map f (range_with_len a (length ys)) ≡ map g ys
map_by_place f g [] a h = refl
map_by_place f g (y ∷ ys) a h =
    let none : a + 0 ≡ a = omega arith in
    let first : f a ≡ g y = ap f (sym none) ∙ h 0 (omega arith) in
    let rest = map_by_place f g ys (a + 1) (λ k l. let next : (a + 1) + k ≡ a + suc k = omega arith in ap f next ∙ h (suc k) (omega (arith, l))) in
    rw (first, rest) refl
