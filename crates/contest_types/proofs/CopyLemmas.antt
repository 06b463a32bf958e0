-- Rows with ids of their own, copied one after the other.
use Rattle.std.proofs.Common.{◌≡◌, ℕ, zero, suc, ◌+◌, true, false, List, [], ◌∷◌, length, map, take, Some, None, get_or, ◌<◌, refl, sym, ap, ◌∙◌}
use Rattle.std.specs.Prelude.{not, slice_get}
use Rattle.std.specs.List.{position_from}
use Rattle.std.specs.Str.{bytes_eq}
use Rattle.std.proofs.lemmas.Option.{slice_get-get_or}
use Rattle.std.proofs.lemmas.Bool.{not-true}
use Rattle.contest_types.specs.Places.{is_among, are_different, place_of}
use Rattle.contest_types.proofs.PlaceLemmas.{and_left, and_right, or_left, or_right}

unlike_first : {T : Type 0} (id : T → List ℕ) (first : List ℕ) (rows : List T) (i : ℕ) (row : T) → is_among (map id rows) first ≡ false → slice_get rows i ≡ Some row → bytes_eq (id row) first ≡ false
unlike_first id first [] i row n h = absurd (cc h)
unlike_first id first (x ∷ xs) zero row n h =
    let same : x ≡ row = cc h in
    rw (← same) (or_left _ _ n)
unlike_first id first (x ∷ xs) (suc i) row n h = unlike_first id first xs i row (or_right (bytes_eq (id x) first) _ n) h

new_from : {T : Type 0} (id : T → List ℕ) (n : ℕ) (rows : List T) (i : ℕ) (row : T) → are_different (map id rows) ≡ true → slice_get rows i ≡ Some row → position_from (bytes_eq (id row)) n (map id (take i rows)) ≡ None
new_from id n [] i row d h = absurd (cc h)
new_from id n (x ∷ xs) zero row d h = refl
new_from id n (x ∷ xs) (suc i) row d h =
    let off : bytes_eq (id row) (id x) ≡ false = unlike_first id (id x) xs i row (not-true _ (and_left _ _ d)) h in
    rw off (new_from id (n + 1) xs i row (and_right (not (is_among (map id xs) (id x))) _ d) h)

-- none of the rows before one has its id
pub new_after : {T : Type 0} (id : T → List ℕ) (rows : List T) (i : ℕ) (row copy : T) → are_different (map id rows) ≡ true → i < length rows → row ≡ get_or rows i row → copy ≡ row → place_of (id copy) (map id (take i rows)) ≡ None
new_after id rows i row copy d l at same = rw same (new_from id 0 rows i row d (slice_get-get_or rows i row l ∙ ap Some (sym at)))
