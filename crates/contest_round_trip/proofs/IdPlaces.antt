-- Where ids stand among ids that differ.
use Rattle.std.proofs.Common.{◌≡◌, ◌∙◌, ◌<◌, ◌+◌, ℕ, zero, suc, true, false, List, [], ◌∷◌, Some, length, map, get_or, slice_get, refl, sym, ap, subst, inl, inr, arith}
use Rattle.std.specs.Prelude.{not, unwrap_or}
use Rattle.std.specs.List.{position_from}
use Rattle.std.specs.Option.{option_map_or}
use Rattle.std.specs.Str.{bytes_eq}
use Rattle.std.proofs.lemmas.Bool.{and_parts, cases_Bool, false≢true, not-true}
use Rattle.std.proofs.lemmas.List.{length-map}
use Rattle.contest_types.specs.Places.{are_different, is_among, place_of}
use Rattle.contest_types.specs.ProblemPlaces.{problem_id_at, problem_order}
use Rattle.contest_types.specs.Setup.{IsValid, Setup}
use Rattle.contest_types.specs.declared.objects.Problem.{Problem}
use Rattle.contest_types.proofs.Different.{one_place}
use Rattle.contest_types.proofs.PlaceLemmas.{bytes_same, or_left, or_right, same_bytes}
use Rattle.contest_score.proofs.BoardRows.{problems_stand_once}
use Rattle.contest_round_trip.specs.Audited.{listed_problems, spot_of}
use Rattle.contest_round_trip.proofs.ListPlaces.{before_at, has_at, stands_in}
use Rattle.contest_round_trip.proofs.SameRows.{before, listed_at, listed_length, never, order_there}

-- ---- ids that differ

-- an id that is behind others isn't one of them
unlike_head : (x : List ℕ) (xs : List (List ℕ)) → is_among xs x ≡ false → (i : ℕ) → i < length xs → bytes_eq (get_or xs i []) x ≡ false
unlike_head x [] e i l = absurd (omega (arith, l))
unlike_head x (y ∷ ys) e zero l = or_left (bytes_eq y x) (is_among ys x) e
unlike_head x (y ∷ ys) e (suc i) l = unlike_head x ys (or_right (bytes_eq y x) (is_among ys x) e) i (omega (arith, l))

place_from : (ids : List (List ℕ)) → are_different ids ≡ true → (a i : ℕ) → i < length ids → position_from (bytes_eq (get_or ids i [])) a ids ≡ Some (a + i)
place_from [] e a i l = absurd (omega (arith, l))
place_from (x ∷ ids) e a zero l = let none : a + 0 ≡ a = omega arith in rw (bytes_same x) (ap Some (sym none))
place_from (x ∷ ids) e a (suc i) l =
    let parts = and_parts (not (is_among ids x)) (are_different ids) e in
    let next : (a + 1) + i ≡ a + suc i = omega arith in
    rw (unlike_head x ids (not-true (is_among ids x) parts.0) i (omega (arith, l))) (place_from ids parts.1 (a + 1) i (omega (arith, l)) ∙ ap Some next)

-- the place of an id that stands
pub place_is : (ids : List (List ℕ)) → are_different ids ≡ true → (i : ℕ) → i < length ids → place_of (get_or ids i []) ids ≡ Some i
place_is ids e i l = let none : 0 + i ≡ i = omega arith in place_from ids e 0 i l ∙ ap Some none

-- the same, of rows
pub row_place : {X : Type 0} (id : X → List ℕ) (rows : List X) → are_different (map id rows) ≡ true → (i : ℕ) → i < length rows → place_of (option_map_or id (slice_get rows i) []) (map id rows) ≡ Some i
row_place {X} id rows e i l =
    let many = length-map rows id in
    ap (λ text. place_of text (map id rows)) (sym (text_is rows i l)) ∙ place_is (map id rows) e i (omega (arith, l, many))
  where
    text_is : (xs : List X) (k : ℕ) → k < length xs → get_or (map id xs) k [] ≡ option_map_or id (slice_get xs k) []
    text_is [] k m = absurd (omega (arith, m))
    text_is (x ∷ xs) zero m = refl
    text_is (x ∷ xs) (suc k) m = text_is xs k (omega (arith, m))

-- texts of which no two are one
pub different_if : (xs : List (List ℕ)) → ((i j : ℕ) → i < j → j < length xs → get_or xs i [] ≡ get_or xs j [] → ⊥) → are_different xs ≡ true
different_if [] h = refl
different_if (x ∷ xs) h =
    let rest = different_if xs (λ i j l m. h (suc i) (suc j) (omega (arith, l)) (omega (arith, m))) in
    rw (none xs (λ j m. h 0 (suc j) (omega arith) (omega (arith, m)))) rest
  where
    none : (ys : List (List ℕ)) → ((j : ℕ) → j < length ys → x ≡ get_or ys j [] → ⊥) → is_among ys x ≡ false
    none [] g = refl
    none (y ∷ ys) g = elim (cases_Bool (bytes_eq y x)) [
      | inl e ↦ absurd (g 0 (omega arith) (sym (same_bytes y x e)))
      | inr e ↦ rw e (none ys (λ j m. g (suc j) (omega (arith, m))))
    ]

-- ---- problems as they are listed

module _ (s : Setup) (v : IsValid s) where
  abbrev order : List ℕ
  order = problem_order s

  text_of : (key : Problem → List ℕ) → ℕ → List ℕ
  text_of key p = option_map_or key (slice_get s.problems p) []

  listed_text : (key : Problem → List ℕ) (k : ℕ) → k < length order → get_or (map key (listed_problems s)) k [] ≡ text_of key (get_or order k 0)
  unfolding text_of
  listed_text key k l =
      let long = listed_length s.problems order (order_there s v) in
      text_at (listed_problems s) k (omega (arith, l, long)) ∙ ap (λ o. option_map_or key o []) (listed_at s.problems order (order_there s v) k l)
    where
      text_at : (ps : List Problem) (i : ℕ) → i < length ps → get_or (map key ps) i [] ≡ option_map_or key (slice_get ps i) []
      text_at [] i m = absurd (omega (arith, m))
      text_at (p ∷ ps) zero m = refl
      text_at (p ∷ ps) (suc i) m = text_at ps i (omega (arith, m))

  -- what no two problems share no two listed ones do
  pub listed_different : (key : Problem → List ℕ) → are_different (map key s.problems) ≡ true → are_different (map key (listed_problems s)) ≡ true
  unfolding text_of
  listed_different key e = different_if (map key (listed_problems s)) (λ i j l m same.
      let many : length (map key (listed_problems s)) ≡ length order = length-map (listed_problems s) key ∙ listed_length s.problems order (order_there s v) in
      let n : j < length order = omega (arith, m, many) in
      let k : i < length order = omega (arith, l, n) in
      let texts = sym (listed_text key i k) ∙ same ∙ listed_text key j n in
      let one = one_place key s.problems e (get_or order i 0) (get_or order j 0) (order_there s v (get_or order i 0) (has_at order i 0 k)) (order_there s v (get_or order j 0) (has_at order j 0 n)) texts in
      false≢true (sym (never s (get_or order j 0)) ∙ subst (λ q. before s q (get_or order j 0) ≡ true) one (before_at (before s) order (problems_stand_once s v).1 i j 0 l n)))

  -- a problem's spot is its place among them
  pub listed_place : (p : ℕ) → p < length s.problems → place_of (problem_id_at s.problems p) (map (λ (q : Problem). q.id) (listed_problems s)) ≡ Some (spot_of s p)
  unfolding text_of
  listed_place p l =
      let ids = map (λ (q : Problem). q.id) (listed_problems s) in
      let at = stands_in p 0 order (((problems_stand_once s v).0 p).1 l) in
      let zero_first : 0 + at.at ≡ at.at = omega arith in
      let spot : spot_of s p ≡ at.at = ap (λ o. unwrap_or o 0) at.found ∙ zero_first in
      let many : length ids ≡ length order = length-map (listed_problems s) (λ (q : Problem). q.id) ∙ listed_length s.problems order (order_there s v) in
      let text : get_or ids at.at [] ≡ problem_id_at s.problems p = listed_text (λ (q : Problem). q.id) at.at at.within ∙ ap (problem_id_at s.problems) at.is in
      ap (λ t. place_of t ids) (sym text) ∙ place_is ids (listed_different (λ (q : Problem). q.id) v.problems) at.at (omega (arith, at.within, many)) ∙ ap Some (sym spot)
