-- An id tells the row that has it.
use Rattle.std.proofs.Common.{◌≡◌, ◌⊎◌, ℕ, zero, suc, ◌<◌, true, false, List, [], ◌∷◌, length, map, get_or, slice_get, not, sym, ◌∙◌, arith, inl, inr}
use Rattle.std.specs.Option.{option_map_or}
use Rattle.std.specs.Str.{bytes_eq}
use Rattle.std.proofs.lemmas.Option.{slice_get-get_or}
use Rattle.std.proofs.lemmas.List.{get_or-map, length-map}
use Rattle.std.proofs.lemmas.Slice.Eq.{bytes_eq-Decides}
use Rattle.std.proofs.lemmas.Bool.{false≢true, not-true}
use Rattle.contest_types.specs.Places.{is_among, are_different}
use Rattle.contest_types.proofs.PlaceLemmas.{and_left, and_right, or_left, or_right}

-- a text that isn't among the texts is none of them
unlike : (xs : List (List ℕ)) (x : List ℕ) → is_among xs x ≡ false → (j : ℕ) (d : List ℕ) → j < length xs → bytes_eq (get_or xs j d) x ≡ false
unlike [] x h j d l = absurd (omega (arith, l))
unlike (y ∷ ys) x h zero d l = or_left _ _ h
unlike (y ∷ ys) x h (suc j) d l = unlike ys x (or_right (bytes_eq y x) _ h) j d (omega (arith, l))

-- different texts stand at different places
apart : (xs : List (List ℕ)) → are_different xs ≡ true → (i j : ℕ) (d : List ℕ) → i < j → j < length xs → get_or xs i d ≡ get_or xs j d → ⊥
apart [] h i j d l m e = omega (arith, m)
apart (x ∷ xs) h i zero d l m e = omega (arith, l)
apart (x ∷ xs) h zero (suc j) d l m e =
    let off : bytes_eq (get_or xs j d) x ≡ false = unlike xs x (not-true _ (and_left _ _ h)) j d (omega (arith, m)) in
    false≢true (sym off ∙ (bytes_eq-Decides (get_or xs j d) x).1 (sym e))
apart (x ∷ xs) h (suc i) (suc j) d l m e = apart xs (and_right (not (is_among xs x)) _ h) i j d (omega (arith, l)) (omega (arith, m)) e

pub compared : (a b : ℕ) → (a < b) ⊎ ((a ≡ b) ⊎ (b < a))
compared a b = grind arith

id_at : {T : Type 0} (id : T → List ℕ) (rows : List T) (d : T) (i : ℕ) → i < length rows → option_map_or id (slice_get rows i) [] ≡ get_or (map id rows) i []
id_at id rows d i l = rw (slice_get-get_or rows i d l) (sym (get_or-map id rows i d [] l))

some_row : {T : Type 0} (rows : List T) (i : ℕ) → i < length rows → T
some_row [] i l = absurd (omega (arith, l))
some_row (row ∷ rows) i l = row

-- rows whose ids differ are at one place where their ids are one
pub one_place : {T : Type 0} (id : T → List ℕ) (rows : List T) → are_different (map id rows) ≡ true → (i j : ℕ) → i < length rows → j < length rows → option_map_or id (slice_get rows i) [] ≡ option_map_or id (slice_get rows j) [] → i ≡ j
one_place {T} id rows h i j l m e =
    let d : T = some_row rows i l in
    let same : get_or (map id rows) i [] ≡ get_or (map id rows) j [] = sym (id_at id rows d i l) ∙ (e ∙ id_at id rows d j m) in
    let many : length (map id rows) ≡ length rows = length-map rows id in
    elim (compared i j) [
      | inl before ↦ absurd (apart (map id rows) h i j [] before (omega (arith, m, many)) same)
      | inr other ↦ elim other [ inl is ↦ is | inr after ↦ absurd (apart (map id rows) h j i [] after (omega (arith, l, many)) (sym same)) ]
    ]
