-- What is next in a list whose ids differ may be added to those before it.
use Rattle.std.proofs.Common.{◌≡◌, ℕ, ◌≤◌, Bool, true, false, List, [], ◌∷◌, ◌++◌, length, length-append, map, None, refl, arith}
use Rattle.std.specs.Prelude.{find, nat_le, not, Ok}
use Rattle.std.specs.List.{list_all}
use Rattle.std.specs.Str.{bytes_eq}
use Rattle.std.proofs.lemmas.Bool.Decides.{nat_tests}
use Rattle.std.proofs.lemmas.Bool.{not-true}
use Rattle.contest_types.specs.Additions.{addition}
use Rattle.contest_types.specs.Places.{are_different, is_among}
use Rattle.contest_types.proofs.PlaceLemmas.{and_left, and_right, both_false, differs, or_left, or_right}

unlike : {T : Type 0} (id : T → List ℕ) (x : T) (rest : List T) (front : List T) (text : List ℕ) → is_among (map id (front ++ x ∷ rest)) text ≡ false → bytes_eq (id x) text ≡ false
unlike id x rest [] text n = or_left _ _ n
unlike id x rest (y ∷ ys) text n = unlike id x rest ys text (or_right (bytes_eq (id y) text) _ n)

pub new_before : {T : Type 0} (id : T → List ℕ) (front : List T) (x : T) (rest : List T) → are_different (map id (front ++ x ∷ rest)) ≡ true → find (λ other. bytes_eq (id x) (id other)) front ≡ None
new_before id [] x rest d = refl
new_before id (y ∷ ys) x rest d =
    let off : bytes_eq (id x) (id y) ≡ false = unlike id x rest ys (id y) (not-true _ (and_left _ _ d)) in
    rw off (new_before id ys x rest (and_right (not (is_among (map id (ys ++ x ∷ rest)) (id y))) _ d))

pub not_before : {T : Type 0} (id : T → List ℕ) (front : List T) (x : T) (rest : List T) → are_different (map id (front ++ x ∷ rest)) ≡ true → is_among (map id front) (id x) ≡ false
not_before id [] x rest d = refl
not_before id (y ∷ ys) x rest d =
    both_false _ _
    (differs (id x) (id y) (unlike id x rest ys (id y) (not-true _ (and_left _ _ d))))
    (not_before id ys x rest (and_right (not (is_among (map id (ys ++ x ∷ rest)) (id y))) _ d))

pub has_room : {T : Type 0} (most : ℕ) (front : List T) (x : T) (rest : List T) → length (front ++ x ∷ rest) ≤ most → nat_le most (length front) ≡ false
has_room most front x rest l =
    let count = length-append front (x ∷ rest) in
    grind (arith, nat_tests, l, count)

pub is_next : {T : Type 0} (id : T → List ℕ) (same : T → T → Bool) (most : ℕ) (front : List T) (x : T) (rest : List T) → are_different (map id (front ++ x ∷ rest)) ≡ true → length (front ++ x ∷ rest) ≤ most →
    addition id same most front x ≡ Ok true
is_next id same most front x rest d l = rw (new_before id front x rest d, has_room most front x rest l) refl

-- what holds of all holds of one in the middle
pub middle : {T : Type 0} (p : T → Bool) (front : List T) (x : T) (rest : List T) → list_all p (front ++ x ∷ rest) ≡ true → p x ≡ true
middle p [] x rest h = and_left _ _ h
middle p (y ∷ ys) x rest h = middle p ys x rest (and_right (p y) _ h)
