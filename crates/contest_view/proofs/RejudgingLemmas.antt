-- The rejudging that a number names is the one at its place.
use Rattle.std.proofs.Common.{◌≡◌, ◌∙◌, ◌+◌, ◌<◌, ◌≤◌, ◌∷◌, ◌++◌, ℕ, zero, suc, Bool, true, false, List, [], length, drop, get_or, Option, Some, None, refl, sym, ap, arith, inl, inr}
use Rattle.std.specs.Prelude.{◌&&◌, ◌^◌, find, slice_get, if◌then◌else◌}
use Rattle.std.specs.Fmt.{decimal}
use Rattle.std.specs.List.{enumerate_from, flat_map, list_all}
use Rattle.std.specs.Option.{option_map}
use Rattle.std.specs.Str.{bytes_eq}
use Rattle.std.proofs.lemmas.Fmt.{decimal_injective}
use Rattle.std.proofs.lemmas.List.{append_assoc, drop_more}
use Rattle.std.proofs.lemmas.Slice.Eq.{bytes_eq-Decides}
use Rattle.std.proofs.lemmas.Bool.{leb-true}
use Rattle.contest_types.specs.Order.{Has}
use Rattle.contest_types.specs.State.{ContestState}
use Rattle.contest_types.specs.Valid.{is_valid}
use Rattle.contest_types.specs.ValidRejudgings.{are_different_members, is_valid_rejudging, open_members}
use Rattle.contest_types.specs.declared.limits.TheConstants.{REJUDGINGS}
use Rattle.contest_types.specs.declared.rejudging.Rejudging.{Rejudging}
use Rattle.contest_types.proofs.PlaceLemmas.{and_right}
use Rattle.contest_types.proofs.ValidParts.{parts}
use Rattle.contest_view.specs.Rejudgings.{named_rejudging}

abbrev has_this_number : (id : List ℕ) → ℕ × Rejudging → Bool
has_this_number id p = bytes_eq (decimal p.0) id

other_number : (n m : ℕ) (id : List ℕ) → n < 2 ^ 64 → m < 2 ^ 64 → decimal n ≡ id → (m ≡ n → ⊥) → bytes_eq (decimal m) id ≡ false
other_number n m id ln lm is other =
    let go : (b : Bool) → bytes_eq (decimal m) id ≡ b → b ≡ false = elim [
      | true ↦ λ e. absurd (other (decimal_injective m n lm ln ((bytes_eq-Decides (decimal m) id).0 e ∙ sym is)))
      | false ↦ λ e. refl
    ] in
    go (bytes_eq (decimal m) id) refl

-- where they are counted on from one, the one with a number stands so far behind the first
at_place : (rs : List Rejudging) (first n i : ℕ) (id : List ℕ) → n < 2 ^ 64 → first + length rs < 2 ^ 64 → decimal n ≡ id → n ≡ first + i
    → find (has_this_number id) (enumerate_from first rs) ≡ option_map (λ (r : Rejudging). (n, r)) (slice_get rs i)
at_place [] first n i id small fits is at = refl
at_place (r ∷ rs) first n zero id small fits is at =
    let one : n ≡ first = omega (arith, at) in
    let here : bytes_eq (decimal first) id ≡ true = (bytes_eq-Decides (decimal first) id).1 (ap decimal (sym one) ∙ is) in
    rw here (ap (λ (m : ℕ). Some (m, r)) (sym one))
at_place (r ∷ rs) first n (suc i) id small fits is at =
    let other : bytes_eq (decimal first) id ≡ false = other_number n first id small (omega (arith, fits)) is (λ e. omega (arith, e, at)) in
    rw other (at_place rs (first + 1) n i id small (omega (arith, fits)) is (omega (arith, at)))

-- and none has a number below the first, or an id that is none of their numbers
none_has : (rs : List Rejudging) (first : ℕ) (id : List ℕ) → ((m : ℕ) → first ≤ m → m < first + length rs → bytes_eq (decimal m) id ≡ false) → find (has_this_number id) (enumerate_from first rs) ≡ None
none_has [] first id never = refl
none_has (r ∷ rs) first id never =
    rw (never first (omega arith) (omega arith)) (none_has rs (first + 1) id (λ m l k. never m (omega (arith, l)) (omega (arith, k))))

few : (x : ContestState) → is_valid x ≡ true → length x.rejudgings ≤ REJUDGINGS
few x valid =
    leb-true (length x.rejudgings) REJUDGINGS (and_right (list_all (is_valid_rejudging x) x.rejudgings && are_different_members (open_members x.rejudgings)) _ (parts x valid).rejudgings)

pub named_at : (x : ContestState) → is_valid x ≡ true → (n place : ℕ) (id : List ℕ) → n ≡ 1 + place → n < 2 ^ 64 → decimal n ≡ id
    → named_rejudging id x.rejudgings ≡ option_map (λ (r : Rejudging). (n, r)) (slice_get x.rejudgings place)
named_at x valid n place id at small is = let l = few x valid in at_place x.rejudgings 1 n place id small (omega (arith, l)) is at

pub named_zero : (x : ContestState) → is_valid x ≡ true → (id : List ℕ) → decimal 0 ≡ id → named_rejudging id x.rejudgings ≡ None
named_zero x valid id is =
    let l = few x valid in
    none_has x.rejudgings 1 id (λ m low high. other_number 0 m id (omega arith) (omega (arith, l, high)) is (λ e. omega (arith, e, low)))

pub named_none : (x : ContestState) → is_valid x ≡ true → (id : List ℕ) (read : Option ℕ) → ((n : ℕ) → n < 2 ^ 64 → decimal n ≡ id → read ≡ Some n) → read ≡ None → named_rejudging id x.rejudgings ≡ None
named_none x valid id read reads none =
    let l = few x valid in
    let never : (m : ℕ) → 1 ≤ m → m < 1 + length x.rejudgings → bytes_eq (decimal m) id ≡ false = λ m low high. (
    let go : (b : Bool) → bytes_eq (decimal m) id ≡ b → b ≡ false = elim [
      | true ↦ λ e. absurd (cc (sym none ∙ reads m (omega (arith, l, high)) ((bytes_eq-Decides (decimal m) id).0 e)))
      | false ↦ λ e. refl
    ] in
    go (bytes_eq (decimal m) id) refl)
    in
    none_has x.rejudgings 1 id never

-- the one that is named is one of them
counted_has : (rs : List Rejudging) (first : ℕ) (id : List ℕ) (p : ℕ × Rejudging) → find (has_this_number id) (enumerate_from first rs) ≡ Some p → Has rs p.1
counted_has [] first id p h = absurd (cc h)
counted_has (r ∷ rs) first id p h =
    let go : (b : Bool) → (if b then Some (first, r) else find (has_this_number id) (enumerate_from (first + 1) rs)) ≡ Some p → Has (r ∷ rs) p.1 = elim [
      | true ↦ λ k. inl (let is : (first, r) ≡ p = cc k in sym (ap (λ (q : ℕ × Rejudging). q.1) is))
      | false ↦ λ k. inr (counted_has rs (first + 1) id p k)
    ] in
    go (bytes_eq (decimal first) id) h

pub named_has : (id : List ℕ) (rs : List Rejudging) (p : ℕ × Rejudging) → named_rejudging id rs ≡ Some p → Has rs p.1
named_has id rs p h = counted_has rs 1 id p h

-- of rows that are counted from a first number on the next one, and those behind it
pub left_counted : {X : Type 0} (first : ℕ) (xs : List X) (i : ℕ) (x : X) → i < length xs → x ≡ get_or xs i x
    → enumerate_from (first + i) (drop i xs) ≡ (first + i, x) ∷ enumerate_from (first + (i + 1)) (drop (i + 1) xs)
left_counted {X} first xs i x l at =
    let two : first + i + 1 ≡ first + (i + 1) = omega arith in
    ap (enumerate_from (first + i)) (drop_more xs i x l ∙ ap (λ (y : X). y ∷ drop (i + 1) xs) (sym at)) ∙ ap (λ (n : ℕ). (first + i, x) ∷ enumerate_from n (drop (i + 1) xs)) two

-- what is made of one more of them
pub made_more : {X Y : Type 0} (make : ℕ × X → List Y) (first : ℕ) (xs : List X) (i : ℕ) (x : X) (made more whole : List Y) → i < length xs → x ≡ get_or xs i x
    → made ++ flat_map make (enumerate_from (first + i) (drop i xs)) ≡ whole → more ≡ made ++ make (first + i, x)
    → more ++ flat_map make (enumerate_from (first + (i + 1)) (drop (i + 1) xs)) ≡ whole
made_more {X} {Y} make first xs i x made more whole l at before adds =
    let rest : List Y = flat_map make (enumerate_from (first + (i + 1)) (drop (i + 1) xs)) in
    ap (λ (ys : List Y). ys ++ rest) adds ∙ (append_assoc made (make (first + i, x)) rest ∙ (ap (λ (ps : List (ℕ × X)). made ++ flat_map make ps) (sym (left_counted first xs i x l at)) ∙ before))
