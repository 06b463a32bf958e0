-- Lists whose rows are found by their ids, as they grow.
use Rattle.std.proofs.Common.{ℕ, ◌≡◌, ◌+◌, ◌<◌, get_or, Bool, true, false, cond, suc, List, [], ◌∷◌, ◌++◌, length, map, Option, Some, None, refl, sym, ap, subst, ◌∙◌, inl, inr, arith, add-zero}
use Rattle.std.specs.Prelude.{◌&&◌, ◌||◌, not, nat_eq, find, IfSome, IsSome}
use Rattle.std.specs.List.{list_any, list_all, position_from}
use Rattle.std.specs.Str.{bytes_eq}
use Rattle.std.specs.Global.{Vec}
use Rattle.std.specs.Map.{IsKeyTest, AreApart, KeepsOthers, lookup}
use Rattle.std.specs.HashMap.{HashMap, get_by, UpdatesBy}
use Rattle.std.specs.Cmp.Lexicographic.{pointwise}
use Rattle.std.proofs.lemmas.Bool.{cases_Bool, false≢true, not-true}
pub use Rattle.std.proofs.lemmas.Bool.{and_from as both_true, or_from as both_false}
use Rattle.std.proofs.lemmas.List.{map-append, length-map}
use Rattle.std.proofs.lemmas.Slice.Eq.{bytes_eq-Decides}
use Rattle.std.proofs.lemmas.Cmp.{nat_list_eq_equiv}
use Rattle.contest_types.specs.IdText.{is_id}
use Rattle.contest_types.specs.Places.{is_among, are_different, place_of, IsIndexed}

pub and_left : (a b : Bool) → (a && b) ≡ true → a ≡ true
and_left true b h = refl
and_left false b h = h

pub and_right : (a b : Bool) → (a && b) ≡ true → b ≡ true
and_right true b h = h
and_right false b h = absurd (false≢true h)

pub or_left : (a b : Bool) → (a || b) ≡ false → a ≡ false
or_left true b h = h
or_left false b h = refl

pub or_right : (a b : Bool) → (a || b) ≡ false → b ≡ false
or_right true b h = absurd (false≢true (sym h))
or_right false b h = h

pub same_bytes : (x y : List ℕ) → bytes_eq x y ≡ true → x ≡ y
same_bytes x y h = (bytes_eq-Decides x y).0 h

pub bytes_same : (xs : List ℕ) → bytes_eq xs xs ≡ true
bytes_same xs = (bytes_eq-Decides xs xs).1 refl

pub differs : (x y : List ℕ) → bytes_eq x y ≡ false → bytes_eq y x ≡ false
differs x y h = elim (cases_Bool (bytes_eq y x)) [
  | inl t ↦ absurd (false≢true (sym h ∙ (bytes_eq-Decides x y).1 (sym (same_bytes y x t))))
  | inr f ↦ f
]

-- what stands nowhere isn't among the texts, and the other way round
none_from : (id : List ℕ) (n : ℕ) (ids : List (List ℕ)) (b : Bool) (x : List ℕ) → bytes_eq id x ≡ b → position_from (bytes_eq id) n (x ∷ ids) ≡ None → (b ≡ false) × (position_from (bytes_eq id) (n + 1) ids ≡ None)
none_from id n ids true x e h = absurd (cc (rw e at h))
none_from id n ids false x e h = (refl, rw e at h)

pub not_among : (id : List ℕ) (n : ℕ) (ids : List (List ℕ)) → position_from (bytes_eq id) n ids ≡ None → is_among ids id ≡ false
not_among id n [] h = refl
not_among id n (x ∷ xs) h =
    let f = none_from id n xs (bytes_eq id x) x refl h in
    both_false _ _ (differs id x f.0) (not_among id (n + 1) xs f.1)

among_push : (xs : List (List ℕ)) (y z : List ℕ) → is_among xs z ≡ false → bytes_eq y z ≡ false → is_among (xs ++ y ∷ []) z ≡ false
among_push [] y z h e = both_false _ _ e refl
among_push (x ∷ xs) y z h e = both_false _ _ (or_left _ _ h) (among_push xs y z (or_right (bytes_eq x z) _ h) e)

pub different_push : (xs : List (List ℕ)) (y : List ℕ) → are_different xs ≡ true → is_among xs y ≡ false → are_different (xs ++ y ∷ []) ≡ true
different_push [] y d h = refl
different_push (x ∷ xs) y d h =
    let apart = among_push xs y x (not-true _ (and_left _ _ d)) (differs x y (or_left _ _ h)) in
    both_true _ _ (ap not apart) (different_push xs y (and_right (not (is_among xs x)) _ d) (or_right (bytes_eq x y) _ h))

-- a new id stands behind the others
place_new : (id : List ℕ) (n : ℕ) (ids : List (List ℕ)) → position_from (bytes_eq id) n ids ≡ None → bytes_eq id id ≡ true → position_from (bytes_eq id) n (ids ++ id ∷ []) ≡ Some (n + length ids)
place_new id n [] h t = rw t (ap Some (sym (add-zero n)))
place_new id n (x ∷ xs) h t =
    let f = none_from id n xs (bytes_eq id x) x refl h in
    let e : (n + 1) + length xs ≡ n + length (x ∷ xs) = omega arith in
    rw f.0 (place_new id (n + 1) xs f.1 t ∙ ap Some e)

-- and the others where they stood
place_old : (id other : List ℕ) (n : ℕ) (ids : List (List ℕ)) → bytes_eq other id ≡ false → position_from (bytes_eq other) n (ids ++ id ∷ []) ≡ position_from (bytes_eq other) n ids
place_old id other n [] e = rw e refl
place_old id other n (x ∷ xs) e = ap (λ o. cond (bytes_eq other x) (Some n) o) (place_old id other (n + 1) xs e)

pub all_push : {T : Type 0} (test : T → Bool) (xs : List T) (y : T) → list_all test xs ≡ true → test y ≡ true → list_all test (xs ++ y ∷ []) ≡ true
all_push test [] y h e = both_true _ _ e refl
all_push test (x ∷ xs) y h e = both_true _ _ (and_left _ _ h) (all_push test xs y (and_right (test x) _ h) e)

other_entries : {K X : Type 0} (eq : K → K → Bool) (test : K → Bool) (old new : List (K × X)) → KeepsOthers eq test old new → (other : K → Bool) → IsKeyTest eq other → AreApart test other → lookup other new ≡ lookup other old
unfolding KeepsOthers
other_entries eq test old new h = h

apart : (bs cs ks : List ℕ) → bytes_eq bs cs ≡ false → bytes_eq bs ks ≡ true → bytes_eq cs ks ≡ false
apart bs cs ks n y = nat_list_eq_equiv.symm cs ks ∙ sym (nat_list_eq_equiv.congr bs ks cs y) ∙ n

abbrev pub key_eq : Vec ℕ → Vec ℕ → Bool
key_eq a b = pointwise nat_eq a.items b.items

-- the map with one more id
pub IsIndexed-push : {T H : Type 0} (id : T → List ℕ) (rows : List T) (row : T) (key : Vec ℕ) (m n : HashMap (Vec ℕ) ℕ H) → key.items ≡ id row → is_id (id row) ≡ true → place_of (id row) (map id rows) ≡ None
    → UpdatesBy key_eq (key_eq key) m n (Some (length rows)) → IsIndexed id rows m → IsIndexed id (rows ++ row ∷ []) n
IsIndexed-push {T} {H} id rows row key m n e spelled none u old =
    let ids = map id rows in
    let self : bytes_eq (id row) (id row) ≡ true = (bytes_eq-Decides (id row) (id row)).1 refl in
    let count : 0 + length ids ≡ length rows = omega (arith, length-map rows id) in
    let new_place : place_of (id row) (map id (rows ++ row ∷ [])) ≡ Some (length rows) = rw map-append (place_new (id row) 0 ids none self ∙ ap Some count) in
    let get_old : List ℕ → Option ℕ = λ bytes. get_by (λ (k : Vec ℕ). pointwise nat_eq bytes k.items) m in
    let get_new : List ℕ → Option ℕ = λ bytes. get_by (λ (k : Vec ℕ). pointwise nat_eq bytes k.items) n in
    let here : get_new (id row) ≡ Some (length rows) = subst (λ bytes. get_new bytes ≡ Some (length rows)) e u.1 in
    record {
      agree = λ bytes. elim (cases_Bool (bytes_eq (id row) bytes)) [
        | inl t ↦ subst (λ b. get_new b ≡ place_of b (map id (rows ++ row ∷ []))) (same_bytes (id row) bytes t) (here ∙ sym new_place)
        | inr f ↦ other_entries key_eq (key_eq key) _ _ u.3 (λ k. bytes_eq bytes k.items) (λ x y. nat_list_eq_equiv.congr bytes x.items y.items) (λ k. apart key.items bytes k.items (rw e f))
            ∙ old.agree bytes ∙ sym (rw map-append (place_old (id row) bytes 0 ids (differs (id row) bytes f)))
      ];
      different = rw map-append (different_push ids (id row) old.different (not_among (id row) 0 ids none));
      spelled = rw map-append (all_push is_id ids (id row) old.spelled spelled);
    }

-- the row at the place of an id is the one that has it
pub record StandsAt {T : Type 0} (id : T → List ℕ) (bytes : List ℕ) (rows : List T) (n place : ℕ) : Type 0 where
  pub at : ℕ
  pub place_is : place ≡ n + at
  pub within : at < length rows
  pub found : (d : T) → find (λ other. bytes_eq bytes (id other)) rows ≡ Some (get_or rows at d)

stands_next : {T : Type 0} (id : T → List ℕ) (bytes : List ℕ) (row : T) (rows : List T) (n place : ℕ) (b : Bool) → bytes_eq bytes (id row) ≡ b
    → (position_from (bytes_eq bytes) (n + 1) (map id rows) ≡ Some place → StandsAt id bytes rows (n + 1) place)
    → position_from (bytes_eq bytes) n (map id (row ∷ rows)) ≡ Some place → StandsAt id bytes (row ∷ rows) n place
stands_next {T} id bytes row rows n place true e more h =
    let same : n ≡ place = cc (rw e at h) in
    record { at = 0; place_is = omega arith; within = omega arith; found = λ d. rw e refl }
stands_next {T} id bytes row rows n place false e more h =
    let m = more (rw e at h) in
    record { at = suc m.at; place_is = omega (arith, m.place_is); within = omega (arith, m.within); found = λ d. rw e (m.found d) }

stands_from : {T : Type 0} (id : T → List ℕ) (bytes : List ℕ) (rows : List T) (n place : ℕ) → position_from (bytes_eq bytes) n (map id rows) ≡ Some place → StandsAt id bytes rows n place
stands_from id bytes [] n place h = absurd (cc h)
stands_from id bytes (row ∷ rows) n place h = stands_next id bytes row rows n place (bytes_eq bytes (id row)) refl (stands_from id bytes rows (n + 1) place) h

pub place_within : {T : Type 0} (id : T → List ℕ) (bytes : List ℕ) (rows : List T) (place : ℕ) → place_of bytes (map id rows) ≡ Some place → place < length rows
place_within id bytes items place h = let s = stands_from id bytes items 0 place h in omega (arith, s.place_is, s.within)

pub found_at : {T : Type 0} (id : T → List ℕ) (bytes : List ℕ) (rows : List T) (place : ℕ) (d : T) → place_of bytes (map id rows) ≡ Some place → find (λ other. bytes_eq bytes (id other)) rows ≡ Some (get_or rows place d)
found_at id bytes items place d h =
    let s = stands_from id bytes items 0 place h in
    let e : s.at ≡ place = omega (arith, s.place_is) in
    s.found d ∙ ap (λ i. Some (get_or items i d)) e

unfound_next : {T : Type 0} (id : T → List ℕ) (bytes : List ℕ) (row : T) (rows : List T) (n : ℕ) (b : Bool) → bytes_eq bytes (id row) ≡ b
    → (position_from (bytes_eq bytes) (n + 1) (map id rows) ≡ None → find (λ other. bytes_eq bytes (id other)) rows ≡ None)
    → position_from (bytes_eq bytes) n (map id (row ∷ rows)) ≡ None → find (λ other. bytes_eq bytes (id other)) (row ∷ rows) ≡ None
unfound_next id bytes row rows n true e more h = absurd (cc (rw e at h))
unfound_next id bytes row rows n false e more h = rw e (more (rw e at h))

unfound_from : {T : Type 0} (id : T → List ℕ) (bytes : List ℕ) (rows : List T) (n : ℕ) → position_from (bytes_eq bytes) n (map id rows) ≡ None → find (λ other. bytes_eq bytes (id other)) rows ≡ None
unfound_from id bytes [] n h = refl
unfound_from id bytes (row ∷ rows) n h = unfound_next id bytes row rows n (bytes_eq bytes (id row)) refl (unfound_from id bytes rows (n + 1)) h

pub not_found : {T : Type 0} (id : T → List ℕ) (bytes : List ℕ) (rows : List T) → place_of bytes (map id rows) ≡ None → find (λ other. bytes_eq bytes (id other)) rows ≡ None
not_found id bytes items h = unfound_from id bytes items 0 h

found_next : {T : Type 0} (id : T → List ℕ) (bytes : List ℕ) (row : T) (rows : List T) (n : ℕ) (b : Bool) → bytes_eq bytes (id row) ≡ b
    → (find (λ other. bytes_eq bytes (id other)) rows ≡ None → position_from (bytes_eq bytes) (n + 1) (map id rows) ≡ None)
    → find (λ other. bytes_eq bytes (id other)) (row ∷ rows) ≡ None → position_from (bytes_eq bytes) n (map id (row ∷ rows)) ≡ None
found_next id bytes row rows n true e more h = absurd (cc (rw e at h))
found_next id bytes row rows n false e more h = rw e (more (rw e at h))

no_place_from : {T : Type 0} (id : T → List ℕ) (bytes : List ℕ) (rows : List T) (n : ℕ) → find (λ other. bytes_eq bytes (id other)) rows ≡ None → position_from (bytes_eq bytes) n (map id rows) ≡ None
no_place_from id bytes [] n h = refl
no_place_from id bytes (row ∷ rows) n h = found_next id bytes row rows n (bytes_eq bytes (id row)) refl (no_place_from id bytes rows (n + 1)) h

pub no_place : {T : Type 0} (id : T → List ℕ) (bytes : List ℕ) (rows : List T) → find (λ other. bytes_eq bytes (id other)) rows ≡ None → place_of bytes (map id rows) ≡ None
no_place id bytes items h = no_place_from id bytes items 0 h

-- a text among the texts of rows
pub any_named : {T : Type 0} (name : T → List ℕ) (text : List ℕ) (rows : List T) → list_any (λ row. bytes_eq (name row) text) rows ≡ is_among (map name rows) text
any_named name text [] = refl
any_named name text (row ∷ rows) = ap (λ b. bytes_eq (name row) text || b) (any_named name text rows)

-- a place that is found is in the list
pub place_bound : {T : Type 0} (id : T → List ℕ) (bytes : List ℕ) (rows : List T) (found : Option ℕ) → found ≡ place_of bytes (map id rows) → IfSome found (λ place. place < length rows)
place_bound id bytes rows None h = tt
place_bound id bytes rows (Some place) h = place_within id bytes rows place (sym h)

-- an id that stands among ids is one
spelled_next : (bytes : List ℕ) (n : ℕ) (id : List ℕ) (ids : List (List ℕ)) (place : ℕ) (b : Bool) → bytes_eq bytes id ≡ b → (position_from (bytes_eq bytes) (n + 1) ids ≡ Some place → is_id bytes ≡ true) → list_all is_id (id ∷ ids) ≡ true → position_from (bytes_eq bytes) n (id ∷ ids) ≡ Some place → is_id bytes ≡ true
spelled_next bytes n id ids place true e more all h = ap is_id (same_bytes bytes id e) ∙ and_left _ _ all
spelled_next bytes n id ids place false e more all h = more (rw e at h)

spelled_from : (bytes : List ℕ) (n : ℕ) (ids : List (List ℕ)) (place : ℕ) → list_all is_id ids ≡ true → position_from (bytes_eq bytes) n ids ≡ Some place → is_id bytes ≡ true
spelled_from bytes n [] place all h = absurd (cc h)
spelled_from bytes n (id ∷ ids) place all h = spelled_next bytes n id ids place (bytes_eq bytes id) refl (spelled_from bytes (n + 1) ids place (and_right (is_id id) _ all)) all h

pub place_spelled : (bytes : List ℕ) (ids : List (List ℕ)) (found : Option ℕ) → list_all is_id ids ≡ true → found ≡ place_of bytes ids → IsSome found → is_id bytes ≡ true
place_spelled bytes ids None all h some = absurd (false≢true some)
place_spelled bytes ids (Some place) all h some = spelled_from bytes 0 ids place all (sym h)
