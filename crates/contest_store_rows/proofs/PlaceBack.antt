-- The place that an id was written for is the one that is read.
use Rattle.std.proofs.Common.{◌≡◌, ◌∙◌, ℕ, zero, suc, ◌+◌, ◌<◌, true, false, List, [], ◌∷◌, length, map, slice_get, Some, refl, ap, arith, add-zero}
use Rattle.std.specs.Prelude.{not}
use Rattle.std.specs.List.{position_from}
use Rattle.std.specs.Option.{option_map_or, unwrap_or}
use Rattle.std.specs.Str.{bytes_eq}
use Rattle.std.proofs.lemmas.Slice.Eq.{bytes_eq-Decides}
use Rattle.std.proofs.lemmas.Bool.{not-true}
use Rattle.contest_types.specs.Places.{is_among, are_different, place_of}
use Rattle.contest_types.proofs.PlaceLemmas.{and_left, and_right, or_left, or_right}

-- a text that isn't among the ids is none of them
unlike : {T : Type 0} (id : T → List ℕ) (rows : List T) (x : List ℕ) (at : ℕ) → is_among (map id rows) x ≡ false → at < length rows → bytes_eq (option_map_or id (slice_get rows at) []) x ≡ false
unlike id [] x at h l = absurd (omega (arith, l))
unlike id (row ∷ rows) x zero h l = or_left _ _ h
unlike id (row ∷ rows) x (suc at) h l = unlike id rows x at (or_right (bytes_eq (id row) x) _ h) (omega (arith, l))

place_from : {T : Type 0} (id : T → List ℕ) (rows : List T) (n at : ℕ) → are_different (map id rows) ≡ true → at < length rows → position_from (bytes_eq (option_map_or id (slice_get rows at) [])) n (map id rows) ≡ Some (n + at)
place_from id [] n at d l = absurd (omega (arith, l))
place_from id (row ∷ rows) n zero d l = rw ((bytes_eq-Decides (id row) (id row)).1 refl, add-zero n) refl
place_from id (row ∷ rows) n (suc at) d l =
    let other = unlike id rows (id row) at (not-true _ (and_left _ _ d)) (omega (arith, l)) in
    let count : n + 1 + at ≡ n + suc at = omega arith in
    rw other (place_from id rows (n + 1) at (and_right (not (is_among (map id rows) (id row))) _ d) (omega (arith, l)) ∙ ap Some count)

pub place_there : {T : Type 0} (id : T → List ℕ) (rows : List T) (at : ℕ) → are_different (map id rows) ≡ true → at < length rows → place_of (option_map_or id (slice_get rows at) []) (map id rows) ≡ Some at
place_there id rows at d l =
    let first : 0 + at ≡ at = omega arith in
    place_from id rows zero at d l ∙ ap Some first

pub place_back : {T : Type 0} (id : T → List ℕ) (rows : List T) (at : ℕ) → are_different (map id rows) ≡ true → at < length rows → unwrap_or (place_of (option_map_or id (slice_get rows at) []) (map id rows)) 0 ≡ at
place_back id rows at d l = rw (place_there id rows at d l) refl
