-- What stands of a row's id, and what adding the row comes to.
use Rattle.std.proofs.Common.{ℕ, ◌≡◌, Bool, true, false, List, map, Option, Some, None, get_or, refl, sym, ap, ◌∙◌}
use Rattle.contest_types.specs.Places.{place_of}
use Rattle.contest_types.specs.Additions.{id_match_by, id_match_of}
use Rattle.contest_types.specs.declared.id_list.IdMatch.TheVariants.{New, Same, Other}
use Rattle.contest_types.proofs.PlaceLemmas.{found_at, not_found, no_place}

pub stands_new : {T : Type 0} (id : T → List ℕ) (same : T → T → Bool) (rows : List T) (row : T) → place_of (id row) (map id rows) ≡ None → New ≡ id_match_of id same rows row
stands_new id same rows row h = sym (ap (id_match_by same row) (not_found id (id row) rows h))

as_found : {T : Type 0} (same : T → T → Bool) (row other : T) (b : Bool) → same other row ≡ b → (o : Option T) → o ≡ Some other → id_match_by same row o ≡ id_match_by (λ _ _. b) row (Some other)
as_found same row other true e o h = rw (h, e) refl
as_found same row other false e o h = rw (h, e) refl

pub stands_same : {T : Type 0} (id : T → List ℕ) (same : T → T → Bool) (rows : List T) (row other : T) (place : ℕ) → place_of (id row) (map id rows) ≡ Some place → other ≡ get_or rows place other → same other row ≡ true → Same ≡ id_match_of id same rows row
stands_same id same rows row other place h at e = sym (as_found same row other true e _ (found_at id (id row) rows place other h ∙ ap Some (sym at)))

pub stands_other : {T : Type 0} (id : T → List ℕ) (same : T → T → Bool) (rows : List T) (row other : T) (place : ℕ) → place_of (id row) (map id rows) ≡ Some place → other ≡ get_or rows place other → same other row ≡ false → Other ≡ id_match_of id same rows row
stands_other id same rows row other place h at e = sym (as_found same row other false e _ (found_at id (id row) rows place other h ∙ ap Some (sym at)))

-- what stands there is the same or another
not_new : {T : Type 0} (b : Bool) (same : T → T → Bool) (row other : T) → same other row ≡ b → id_match_by same row (Some other) ≡ New → ⊥
not_new true same row other e h = absurd (cc (rw e at h))
not_new false same row other e h = absurd (cc (rw e at h))

pub new_found : {T : Type 0} (same : T → T → Bool) (row : T) (o : Option T) → id_match_by same row o ≡ New → o ≡ None
new_found same row None h = refl
new_found same row (Some other) h = absurd (not_new (same other row) same row other refl h)

pub place_of_new : {T : Type 0} (id : T → List ℕ) (same : T → T → Bool) (rows : List T) (row : T) → id_match_of id same rows row ≡ New → place_of (id row) (map id rows) ≡ None
place_of_new id same rows row h = no_place id (id row) rows (new_found same row _ h)
