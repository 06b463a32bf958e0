-- Ids that are looked at one after the other, as long as none stands twice.
use Rattle.std.proofs.Common.{◌≡◌, ℕ, ◌+◌, ◌<◌, get_or, take, drop, length, Bool, true, false, cond, List, [], ◌∷◌, ◌++◌, refl, sym, ap, ◌∙◌}
use Rattle.std.specs.Prelude.{◌&&◌, ◌||◌, not}
use Rattle.std.specs.Str.{bytes_eq}
use Rattle.std.proofs.lemmas.Bool.{false≢true, or_right, and_right}
use Rattle.std.proofs.lemmas.List.{take_more, drop_more, take-append-drop}
use Rattle.std.proofs.lemmas.List.Folds.{list_any-append}
use Rattle.std.proofs.lemmas.Slice.Eq.{bytes_eq-Decides}
use Rattle.contest_types.specs.Places.{is_among, are_different}
use Rattle.contest_types.proofs.PlaceLemmas.{same_bytes, different_push}
use Rattle.contest_types.proofs.Tests.{found_last}

-- a text that stands behind others is among all of them
among_behind : (xs : List (List ℕ)) (x y : List ℕ) (zs : List (List ℕ)) → bytes_eq y x ≡ true → is_among (xs ++ y ∷ zs) x ≡ true
among_behind [] x y zs e = ap (λ b. b || is_among zs x) e
among_behind (w ∷ ws) x y zs e = or_right (bytes_eq w x) _ (among_behind ws x y zs e)

-- texts aren't different if one comes again
twice_next : (x : List ℕ) (xs : List (List ℕ)) (y : List ℕ) (zs : List (List ℕ)) (b : Bool) → bytes_eq x y ≡ b
    → (is_among xs y ≡ true → are_different (xs ++ y ∷ zs) ≡ false) → is_among (x ∷ xs) y ≡ true → are_different (x ∷ xs ++ y ∷ zs) ≡ false
twice_next x xs y zs true e more h =
    let same : bytes_eq y x ≡ true = (bytes_eq-Decides y x).1 (sym (same_bytes x y e)) in
    ap (λ b. not b && are_different (xs ++ y ∷ zs)) (among_behind xs x y zs same)
twice_next x xs y zs false e more h = and_right (not (is_among (xs ++ y ∷ zs) x)) _ (more (rw e at h))

twice : (xs : List (List ℕ)) (y : List ℕ) (zs : List (List ℕ)) → is_among xs y ≡ true → are_different (xs ++ y ∷ zs) ≡ false
twice [] y zs h = absurd (false≢true h)
twice (x ∷ xs) y zs h = twice_next x xs y zs (bytes_eq x y) refl (twice xs y zs) h

-- what was seen, once one more was
pub seen_more : (ids : List (List ℕ)) (i : ℕ) (id other : List ℕ) (had has : Bool) → i < length ids → id ≡ get_or ids i id
    → had ≡ is_among (take i ids) other → has ≡ cond (bytes_eq id other) true had → has ≡ is_among (take (i + 1) ids) other
seen_more ids i id other had has l e before put =
    let grown : take (i + 1) ids ≡ take i ids ++ id ∷ [] = rw (← e) at (take_more ids i id l) in
    put
    ∙ (found_last (bytes_eq id other) had
    ∙ (ap (λ b. b || (bytes_eq id other || false)) before
    ∙ (sym (list_any-append (λ y. bytes_eq y other) (take i ids) (id ∷ [])) ∙ ap (λ xs. is_among xs other) (sym grown))))

-- those so far are different still, if the next was not among them
pub still_different : (ids : List (List ℕ)) (i : ℕ) (id : List ℕ) → i < length ids → id ≡ get_or ids i id
    → are_different (take i ids) ≡ true → is_among (take i ids) id ≡ false → are_different (take (i + 1) ids) ≡ true
still_different ids i id l e d n =
    let grown : take (i + 1) ids ≡ take i ids ++ id ∷ [] = rw (← e) at (take_more ids i id l) in
    ap are_different grown ∙ different_push (take i ids) id d n

-- and all aren't, if it was
pub not_different : (ids : List (List ℕ)) (i : ℕ) (id : List ℕ) → i < length ids → id ≡ get_or ids i id
    → is_among (take i ids) id ≡ true → are_different ids ≡ false
not_different ids i id l e h =
    let here : drop i ids ≡ id ∷ drop (i + 1) ids = rw (← e) at (drop_more ids i id l) in
    let whole : take i ids ++ id ∷ drop (i + 1) ids ≡ ids = ap (λ more. take i ids ++ more) (sym here) ∙ take-append-drop i ids in
    ap are_different (sym whole) ∙ twice (take i ids) id (drop (i + 1) ids) h

-- what an insertion tells of the set before it
pub was_seen : (added had among : Bool) → added ≡ false → added ≡ not had → had ≡ among → among ≡ true
was_seen added true among h e m = sym m
was_seen added false among h e m = absurd (false≢true (sym h ∙ e))

pub was_not_seen : (added had among : Bool) → added ≡ true → added ≡ not had → had ≡ among → among ≡ false
was_not_seen added true among h e m = absurd (false≢true (sym e ∙ h))
was_not_seen added false among h e m = sym m
