-- What becomes of the slots of a collection.
use Rattle.std.proofs.Common.{◌≡◌, ◌⊎◌, ◌∙◌, ◌<◌, ℕ, zero, suc, Bool, true, false, List, [], ◌∷◌, ◌++◌, length, map, Option, Some, None, refl, sym, ap, subst, inl, inr, arith}
use Rattle.std.specs.Prelude.{nat_eq, slice_get, slice_set}
use Rattle.std.specs.Str.{bytes_eq}
use Rattle.std.specs.Global.{Vec}
use Rattle.std.specs.Map.{IsKeyTest, AreApart, KeepsOthers, lookup}
use Rattle.std.specs.HashMap.{HashMap, UpdatesBy}
use Rattle.std.specs.Cmp.Lexicographic.{pointwise}
use Rattle.std.proofs.lemmas.Bool.{cases_Bool, false≢true, eqb-true, eq-eqb}
use Rattle.std.proofs.lemmas.Cmp.{nat_list_eq_equiv}
use Rattle.std.proofs.lemmas.Slice.Eq.{bytes_eq-Decides}
use Rattle.contest_types.specs.Places.{are_different, is_among}
use Rattle.contest_types.proofs.PlaceLemmas.{same_bytes, differs, key_eq}
use Rattle.contest_feed_reader.specs.Collections.{put, without}
use Rattle.contest_feed_reader.specs.Slots.{Holds, IsSlotted, slot_of, standing}
use Rattle.contest_feed_reader.specs.declared.row.Row.{Row}

-- the map is looked up by ids
abbrev is_key : List ℕ → Vec ℕ → Bool
is_key id k = pointwise nat_eq id k.items

other_entries : {K X : Type 0} (eq : K → K → Bool) (test : K → Bool) (old new : List (K × X)) → KeepsOthers eq test old new → (other : K → Bool) → IsKeyTest eq other → AreApart test other → lookup other new ≡ lookup other old
unfolding KeepsOthers
other_entries eq test old new h = h

apart : (bs cs ks : List ℕ) → bytes_eq bs cs ≡ false → bytes_eq bs ks ≡ true → bytes_eq cs ks ≡ false
apart bs cs ks n y = nat_list_eq_equiv.symm cs ks ∙ sym (nat_list_eq_equiv.congr bs ks cs y) ∙ n

-- what the map has for the id that is set or taken out
pub own : {H : Type 0} (m n : HashMap (Vec ℕ) ℕ H) (w : Option ℕ) (id : List ℕ) → UpdatesBy key_eq (λ k. pointwise nat_eq id k.items) m n w → slot_of id n ≡ w
own m n w id u = u.1

-- and for others
pub others : {H : Type 0} (m n : HashMap (Vec ℕ) ℕ H) (w : Option ℕ) (id other : List ℕ) → UpdatesBy key_eq (λ k. pointwise nat_eq id k.items) m n w
    → bytes_eq id other ≡ false → slot_of other n ≡ slot_of other m
others m n w id other u f =
    other_entries key_eq (is_key id) _ _ u.3 (is_key other) (λ x y. nat_list_eq_equiv.congr other x.items y.items) (λ k. apart id other k.items f)

-- a slot more
pub push_old : {A : Type 0} (xs : List A) (x y : A) (i : ℕ) → slice_get (xs ++ x ∷ []) i ≡ Some y → (slice_get xs i ≡ Some y) ⊎ ((i ≡ length xs) × (x ≡ y))
push_old [] x y zero e = inr (refl, cc e)
push_old [] x y (suc i) e = absurd (cc e)
push_old (z ∷ xs) x y zero e = inl e
push_old (z ∷ xs) x y (suc i) e = elim (push_old xs x y i e) [ inl h ↦ inl h | inr h ↦ inr (omega (arith, h.0), h.1) ]

pub push_last : {A : Type 0} (xs : List A) (x : A) → slice_get (xs ++ x ∷ []) (length xs) ≡ Some x
push_last [] x = refl
push_last (z ∷ xs) x = push_last xs x

pub push_holds : {A : Type 0} (id : List ℕ) (slots : List (Option (Row A))) (slot : Option (Row A)) (i : ℕ) → Holds id (slice_get slots i) → Holds id (slice_get (slots ++ slot ∷ []) i)
push_holds id [] slot i h = absurd h
push_holds id (s ∷ slots) slot zero h = h
push_holds id (s ∷ slots) slot (suc i) h = push_holds id slots slot i h

-- a slot that is set, and the others
pub set_here : {A : Type 0} (xs : List A) (i : ℕ) (x y : A) → slice_get (slice_set xs i x) i ≡ Some y → x ≡ y
set_here [] i x y e = absurd (cc e)
set_here (z ∷ xs) zero x y e = cc e
set_here (z ∷ xs) (suc i) x y e = set_here xs i x y e

pub set_is : {A : Type 0} (xs : List A) (i : ℕ) (x : A) → i < length xs → slice_get (slice_set xs i x) i ≡ Some x
set_is [] i x l = absurd (omega (arith, l))
set_is (z ∷ xs) zero x l = refl
set_is (z ∷ xs) (suc i) x l = set_is xs i x (omega (arith, l))

pub set_other : {A : Type 0} (xs : List A) (i j : ℕ) (x : A) → (j ≡ i → ⊥) → slice_get (slice_set xs i x) j ≡ slice_get xs j
set_other [] i j x n = refl
set_other (z ∷ xs) zero zero x n = absurd (n refl)
set_other (z ∷ xs) zero (suc j) x n = refl
set_other (z ∷ xs) (suc i) zero x n = refl
set_other (z ∷ xs) (suc i) (suc j) x n = set_other xs i j x (λ e. n (ap suc e))

-- what stands after a slot more
pub standing_push : {A : Type 0} (slots : List (Option A)) (x : A) → standing (slots ++ Some x ∷ []) ≡ standing slots ++ x ∷ []
standing_push [] x = refl
standing_push (None ∷ slots) x = standing_push slots x
standing_push (Some y ∷ slots) x = ap (λ more. y ∷ more) (standing_push slots x)

-- no slot has a row with this id
abbrev pub NoneHas : {A : Type 0} → List ℕ → List (Option (Row A)) → Type 0
NoneHas {A} id slots = (i : ℕ) (row : Row A) → slice_get slots i ≡ Some (Some row) → bytes_eq row.id id ≡ false

-- no slot but one does
abbrev pub OnlyAt : {A : Type 0} → List ℕ → ℕ → List (Option (Row A)) → Type 0
OnlyAt {A} id place slots = (i : ℕ) (row : Row A) → slice_get slots i ≡ Some (Some row) → bytes_eq row.id id ≡ true → i ≡ place

none_later : {A : Type 0} (id : List ℕ) (s : Option (Row A)) (slots : List (Option (Row A))) → OnlyAt id 0 (s ∷ slots) → NoneHas id slots
none_later id s slots only i row e = elim (cases_Bool (bytes_eq row.id id)) [
  | inl t ↦ (let bad : suc i ≡ 0 = only (suc i) row e t in absurd (omega (arith, bad)))
  | inr f ↦ f
]

only_later : {A : Type 0} (id : List ℕ) (place : ℕ) (s : Option (Row A)) (slots : List (Option (Row A))) → OnlyAt id (suc place) (s ∷ slots) → OnlyAt id place slots
only_later id place s slots only i row e t = let same : suc i ≡ suc place = only (suc i) row e t in omega (arith, same)

not_first : {A : Type 0} (id : List ℕ) (place : ℕ) (row : Row A) (slots : List (Option (Row A))) → OnlyAt id (suc place) (Some row ∷ slots) → bytes_eq row.id id ≡ false
not_first id place row slots only = elim (cases_Bool (bytes_eq row.id id)) [
  | inl t ↦ (let bad : 0 ≡ suc place = only 0 row refl t in absurd (omega (arith, bad)))
  | inr f ↦ f
]

-- a row with a new id is put behind all
pub put_new : {A : Type 0} (slots : List (Option (Row A))) (row : Row A) → NoneHas row.id slots → put (standing slots) row ≡ standing slots ++ row ∷ []
put_new [] row none = refl
put_new (None ∷ slots) row none = put_new slots row (λ i r e. none (suc i) r e)
put_new (Some other ∷ slots) row none = rw (none 0 other refl) (ap (λ more. other ∷ more) (put_new slots row (λ i r e. none (suc i) r e)))

-- one with an id that stands takes its place
pub put_there : {A : Type 0} (slots : List (Option (Row A))) (place : ℕ) (row : Row A) → Holds row.id (slice_get slots place) → OnlyAt row.id place slots
    → standing (slice_set slots place (Some row)) ≡ put (standing slots) row
put_there [] place row h only = absurd h
put_there (None ∷ slots) zero row h only = absurd h
put_there (Some other ∷ slots) zero row h only = (let same : bytes_eq other.id row.id ≡ true = (bytes_eq-Decides other.id row.id).1 h in rw same refl)
put_there (None ∷ slots) (suc place) row h only = put_there slots place row h (only_later row.id place None slots only)
put_there (Some other ∷ slots) (suc place) row h only =
    rw (not_first row.id place other slots only) (ap (λ more. other ∷ more) (put_there slots place row h (only_later row.id place (Some other) slots only)))

-- where none has the id nothing is taken
pub without_none : {A : Type 0} (id : List ℕ) (slots : List (Option (Row A))) → NoneHas id slots → without id (standing slots) ≡ standing slots
without_none id [] none = refl
without_none id (None ∷ slots) none = without_none id slots (λ i r e. none (suc i) r e)
without_none id (Some other ∷ slots) none = rw (none 0 other refl) (ap (λ more. other ∷ more) (without_none id slots (λ i r e. none (suc i) r e)))

-- an emptied slot takes the row with its id
pub without_there : {A : Type 0} (id : List ℕ) (slots : List (Option (Row A))) (place : ℕ) → Holds id (slice_get slots place) → OnlyAt id place slots
    → standing (slice_set slots place None) ≡ without id (standing slots)
without_there id [] place h only = absurd h
without_there id (None ∷ slots) zero h only = absurd h
without_there id (Some other ∷ slots) zero h only = (let same : bytes_eq other.id id ≡ true = (bytes_eq-Decides other.id id).1 h in rw same (sym (without_none id slots (none_later id (Some other) slots only))))
without_there id (None ∷ slots) (suc place) h only = without_there id slots place h (only_later id place None slots only)
without_there id (Some other ∷ slots) (suc place) h only =
    rw (not_first id place other slots only) (ap (λ more. other ∷ more) (without_there id slots place h (only_later id place (Some other) slots only)))

-- the slots of one id are one
only_at : {A H : Type 0} (slots : List (Option (Row A))) (places : HashMap (Vec ℕ) ℕ H) (id : List ℕ) (place : ℕ) → IsSlotted slots places → slot_of id places ≡ Some place → OnlyAt id place slots
only_at slots places id place s there i row e t =
    let here : slot_of id places ≡ Some i = subst (λ bytes. slot_of bytes places ≡ Some i) (same_bytes row.id id t) (s.known i row e) in
    cc (sym here ∙ there)

-- none has an id that the map doesn't know
none_at : {A H : Type 0} (slots : List (Option (Row A))) (places : HashMap (Vec ℕ) ℕ H) (id : List ℕ) → IsSlotted slots places → slot_of id places ≡ None → NoneHas id slots
none_at slots places id s there i row e = elim (cases_Bool (bytes_eq row.id id)) [
  | inl t ↦ (let here : slot_of id places ≡ Some i = subst (λ bytes. slot_of bytes places ≡ Some i) (same_bytes row.id id t) (s.known i row e) in absurd (cc (sym here ∙ there)))
  | inr f ↦ f
]

held_within : {A : Type 0} (id : List ℕ) (slots : List (Option (Row A))) (i : ℕ) → Holds id (slice_get slots i) → i < length slots
held_within id [] i h = absurd h
held_within id (s ∷ slots) zero h = omega arith
held_within id (s ∷ slots) (suc i) h = let less = held_within id slots i h in omega (arith, less)

-- the slot that is found is one
pub slot_within : {A H : Type 0} (slots : List (Option (Row A))) (places : HashMap (Vec ℕ) ℕ H) (id : List ℕ) (place : ℕ) → IsSlotted slots places → slot_of id places ≡ Some place → place < length slots
slot_within slots places id place s there = held_within id slots place (s.held id place there)

pub puts_new : {A H : Type 0} (slots : List (Option (Row A))) (places : HashMap (Vec ℕ) ℕ H) (row : Row A) → IsSlotted slots places → slot_of row.id places ≡ None
    → standing (slots ++ Some row ∷ []) ≡ put (standing slots) row
puts_new slots places row s new = standing_push slots row ∙ sym (put_new slots row (none_at slots places row.id s new))

pub puts_there : {A H : Type 0} (slots : List (Option (Row A))) (places : HashMap (Vec ℕ) ℕ H) (row : Row A) (place : ℕ) → IsSlotted slots places → slot_of row.id places ≡ Some place
    → standing (slice_set slots place (Some row)) ≡ put (standing slots) row
puts_there slots places row place s there = put_there slots place row (s.held row.id place there) (only_at slots places row.id place s there)

pub takes_there : {A H : Type 0} (slots : List (Option (Row A))) (places : HashMap (Vec ℕ) ℕ H) (id : List ℕ) (place : ℕ) → IsSlotted slots places → slot_of id places ≡ Some place
    → standing (slice_set slots place None) ≡ without id (standing slots)
takes_there slots places id place s there = without_there id slots place (s.held id place there) (only_at slots places id place s there)

pub takes_none : {A H : Type 0} (slots : List (Option (Row A))) (places : HashMap (Vec ℕ) ℕ H) (id : List ℕ) → IsSlotted slots places → slot_of id places ≡ None → standing slots ≡ without id (standing slots)
takes_none slots places id s there = sym (without_none id slots (none_at slots places id s there))

pub IsSlotted-push : {A H : Type 0} (slots : List (Option (Row A))) (row : Row A) (m n : HashMap (Vec ℕ) ℕ H) → IsSlotted slots m → slot_of row.id m ≡ None
    → UpdatesBy key_eq (λ k. pointwise nat_eq row.id k.items) m n (Some (length slots)) → IsSlotted (slots ++ Some row ∷ []) n
IsSlotted-push slots row m n s new u =
    let none = none_at slots m row.id s new in
    record {
      known = λ i other e. elim (push_old slots (Some row) (Some other) i e) [
        | inl h ↦ others m n _ row.id other.id u (differs other.id row.id (none i other h)) ∙ s.known i other h
        | inr h ↦ (let same : row ≡ other = cc h.1 in rw (← same, h.0) (own m n _ row.id u))
      ];
      held = λ id i e. elim (cases_Bool (bytes_eq row.id id)) [
        | inl t ↦ (let here : slot_of id n ≡ Some (length slots) = subst (λ bytes. slot_of bytes n ≡ Some (length slots)) (same_bytes row.id id t) (own m n _ row.id u) in
            let last : length slots ≡ i = cc (sym here ∙ e) in
            subst (λ place. Holds id (slice_get (slots ++ Some row ∷ []) place)) last (rw (push_last slots (Some row)) (same_bytes row.id id t)))
        | inr f ↦ push_holds id slots (Some row) i (s.held id i (sym (others m n _ row.id id u f) ∙ e))
      ];
    }

-- where a place is another's
apart_places : {H : Type 0} (places : HashMap (Vec ℕ) ℕ H) (id other : List ℕ) (i j : ℕ) → slot_of id places ≡ Some i → slot_of other places ≡ Some j → (j ≡ i → ⊥) → bytes_eq id other ≡ false
apart_places places id other i j a b n = elim (cases_Bool (bytes_eq id other)) [
  | inl t ↦ (let same : slot_of other places ≡ Some i = subst (λ bytes. slot_of bytes places ≡ Some i) (same_bytes id other t) a in absurd (n (cc (sym b ∙ same))))
  | inr f ↦ f
]

same_or_not : (i j : ℕ) → (j ≡ i) ⊎ (j ≡ i → ⊥)
same_or_not i j = elim (cases_Bool (nat_eq j i)) [ inl t ↦ inl (eqb-true j i t) | inr f ↦ inr (λ e. false≢true (sym f ∙ eq-eqb j i e)) ]

held_id : {A : Type 0} (a b : List ℕ) (slot : Option (Option (Row A))) → Holds a slot → Holds b slot → bytes_eq a b ≡ true
held_id a b None h k = absurd h
held_id a b (Some None) h k = absurd h
held_id a b (Some (Some r)) h k = (bytes_eq-Decides a b).1 (sym h ∙ k)

-- two ids with one slot are one
one_id : {A H : Type 0} (slots : List (Option (Row A))) (places : HashMap (Vec ℕ) ℕ H) (a b : List ℕ) (i : ℕ) → IsSlotted slots places → slot_of a places ≡ Some i → slot_of b places ≡ Some i → bytes_eq a b ≡ true
one_id slots places a b i t x y = held_id a b (slice_get slots i) (t.held a i x) (t.held b i y)

pub IsSlotted-set : {A H : Type 0} (slots : List (Option (Row A))) (places : HashMap (Vec ℕ) ℕ H) (row : Row A) (place : ℕ) → IsSlotted slots places → slot_of row.id places ≡ Some place
    → IsSlotted (slice_set slots place (Some row)) places
IsSlotted-set slots places row place s there = record {
  known = λ i other e. elim (same_or_not place i) [
    | inl same ↦ (let here : row ≡ other = cc (set_here slots place (Some row) (Some other) (subst (λ k. slice_get (slice_set slots place (Some row)) k ≡ Some (Some other)) same e)) in rw (← here, same) there)
    | inr n ↦ s.known i other (sym (set_other slots place i (Some row) n) ∙ e)
  ];
  held = λ id i e. elim (same_or_not place i) [
    | inl same ↦ (let id_is : bytes_eq row.id id ≡ true = one_id slots places row.id id place s there (subst (λ k. slot_of id places ≡ Some k) same e) in
        subst (λ k. Holds id (slice_get (slice_set slots place (Some row)) k)) (sym same) (rw (set_is slots place (Some row) (slot_within slots places row.id place s there)) (same_bytes row.id id id_is)))
    | inr n ↦ subst (Holds id) (sym (set_other slots place i (Some row) n)) (s.held id i e)
  ];
}

pub IsSlotted-take : {A H : Type 0} (slots : List (Option (Row A))) (id : List ℕ) (place : ℕ) (m n : HashMap (Vec ℕ) ℕ H) → IsSlotted slots m → slot_of id m ≡ Some place
    → UpdatesBy key_eq (λ k. pointwise nat_eq id k.items) m n None → IsSlotted (slice_set slots place None) n
IsSlotted-take slots id place m n s there u = record {
  known = λ i other e. elim (same_or_not place i) [
    | inl same ↦ (let bad : None ≡ Some other = set_here slots place None (Some other) (subst (λ k. slice_get (slice_set slots place None) k ≡ Some (Some other)) same e) in absurd (cc bad))
    | inr k ↦ (let old : slice_get slots i ≡ Some (Some other) = sym (set_other slots place i None k) ∙ e in
        let before = s.known i other old in
        others m n _ id other.id u (apart_places m id other.id place i there before k) ∙ before)
  ];
  held = λ other i e. elim (cases_Bool (bytes_eq id other)) [
    | inl t ↦ (let gone : slot_of other n ≡ None = subst (λ bytes. slot_of bytes n ≡ None) (same_bytes id other t) (own m n None id u) in absurd (cc (sym gone ∙ e)))
    | inr f ↦ (let before : slot_of other m ≡ Some i = sym (others m n _ id other u f) ∙ e in
        let apart_is : i ≡ place → ⊥ = λ same. false≢true (sym f ∙ held_id id other (slice_get slots place) (s.held id place there) (subst (λ k. Holds other (slice_get slots k)) same (s.held other i before))) in
        subst (Holds other) (sym (set_other slots place i None apart_is)) (s.held other i before))
  ];
}

-- no two slots have one id
abbrev pub HasOne : {A : Type 0} → List (Option (Row A)) → Type 0
HasOne {A} slots = (i j : ℕ) (row other : Row A) → slice_get slots i ≡ Some (Some row) → slice_get slots j ≡ Some (Some other) → bytes_eq other.id row.id ≡ true → j ≡ i

later_one : {A : Type 0} (s : Option (Row A)) (slots : List (Option (Row A))) → HasOne (s ∷ slots) → HasOne slots
later_one s slots one i j row other e f t = let same : suc j ≡ suc i = one (suc i) (suc j) row other e f t in omega (arith, same)

abbrev ids_of : {A : Type 0} → List (Row A) → List (List ℕ)
ids_of rows = map (λ row. row.id) rows

not_among : {A : Type 0} (id : List ℕ) (slots : List (Option (Row A))) → NoneHas id slots → is_among (ids_of (standing slots)) id ≡ false
not_among id [] none = refl
not_among id (None ∷ slots) none = not_among id slots (λ i r e. none (suc i) r e)
not_among id (Some other ∷ slots) none = rw (none 0 other refl) (not_among id slots (λ i r e. none (suc i) r e))

one_different : {A : Type 0} (slots : List (Option (Row A))) → HasOne slots → are_different (ids_of (standing slots)) ≡ true
one_different [] one = refl
one_different (None ∷ slots) one = one_different slots (later_one None slots one)
one_different {A} (Some row ∷ slots) one =
    let none : NoneHas row.id slots = λ i other e. elim (cases_Bool (bytes_eq other.id row.id)) [
      | inl t ↦ (let bad : suc i ≡ 0 = one 0 (suc i) row other refl e t in absurd (omega (arith, bad)))
      | inr f ↦ f
    ] in
    rw (not_among row.id slots none) (one_different slots (later_one (Some row) slots one))

-- the rows that stand have different ids
pub slots_different : {A H : Type 0} (slots : List (Option (Row A))) (places : HashMap (Vec ℕ) ℕ H) → IsSlotted slots places → are_different (map (λ row. row.id) (standing slots)) ≡ true
slots_different slots places s = one_different slots (λ i j row other e f t. only_at slots places row.id i s (s.known i row e) j other f t)
