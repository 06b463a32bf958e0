-- The ids of a team's groups, joined by spaces, name those groups.
use Rattle.std.proofs.Common.{◌≡◌, ◌∙◌, ℕ, zero, suc, ◌<◌, true, false, List, [], ◌∷◌, ◌++◌, append-nil, length, map, slice_get, Some, refl, subst, ap, arith, inl, inr}
use Rattle.std.specs.Prelude.{◌==◌, nat_lt}
use Rattle.std.specs.List.{All, AllByRecursion, list_all}
use Rattle.std.specs.Option.{option_map_or}
use Rattle.std.proofs.lemmas.Bool.{cases_Bool}
use Rattle.std.proofs.lemmas.Bool.Decides.{nat_tests}
use Rattle.std.proofs.lemmas.List.Elements.{All-cons, All-nil}
use Rattle.std.proofs.lemmas.List.Splits.{slice_split_at, slice_split_none}
use Rattle.contest_types.specs.IdText.{IsId, is_id_byte}
use Rattle.contest_types.specs.Places.{place_of}
use Rattle.contest_types.specs.Setup.{Setup, IsValid}
use Rattle.contest_types.specs.SettingsNames.{group_id_at}
use Rattle.contest_types.specs.declared.objects.Group.{Group}
use Rattle.contest_types.proofs.PlaceLemmas.{and_left, and_right}
use Rattle.contest_store_rows.specs.FixedRows.{joined_ids}
use Rattle.contest_store_rows.specs.Lists.{each_some}
use Rattle.contest_store_rows.proofs.PlaceBack.{place_there}
use Rattle.contest_store_reading.specs.Items.{groups_in, groups_named, spaced_ids}
use Rattle.contest_types.specs.Words.{words}
use Rattle.contest_store_reading.specs.Laws.{IsWritableItem}
use Rattle.contest_store_reading.proofs.WordLemmas.{joined_first}

no_space : (c : ℕ) → is_id_byte c ≡ true → (c == 32) ≡ false
no_space c h = elim (cases_Bool (c == 32)) [
  | inl t ↦ (let same : c ≡ 32 = grind (arith, nat_tests, t) in absurd (cc (subst (λ x. is_id_byte x ≡ true) same h)))
  | inr f ↦ f
]

no_spaces : (text : List ℕ) → list_all is_id_byte text ≡ true → All (λ c. (c == 32) ≡ false) text
no_spaces [] h = All-nil (λ c. (c == 32) ≡ false)
no_spaces (c ∷ cs) h = All-cons (λ b. (b == 32) ≡ false) c cs (no_space c (and_left _ _ h)) (no_spaces cs (and_right (is_id_byte c) _ h))

one_word : (id : List ℕ) → IsId id → All (λ c. (c == 32) ≡ false) id
one_word id w = no_spaces id (and_right _ (list_all is_id_byte id) w)

id_at : (groups : List Group) → AllByRecursion (λ (g : Group). IsWritableItem g.id g.name) groups → (at : ℕ) → at < length groups → IsId (option_map_or (λ (g : Group). g.id) (slice_get groups at) [])
id_at [] all at l = absurd (omega (arith, l))
id_at (g ∷ gs) all zero l = all.0.id
id_at (g ∷ gs) all (suc at) l = id_at gs all.1 at (omega (arith, l))

-- the group's id, which is one word, and the place that it names
record Named (s : Setup) (g : ℕ) : Type 0 where
  pub id : IsId (group_id_at s g)
  pub place : place_of (group_id_at s g) (map (λ (t : Group). t.id) s.groups) ≡ Some g

words_back : (s : Setup) (g : ℕ) (gs : List ℕ) → Named s g → AllByRecursion (Named s) gs → words (group_id_at s g ++ spaced_ids s gs) ≡ group_id_at s g ∷ map (group_id_at s) gs
words_back s g [] n all = ap words (append-nil (group_id_at s g)) ∙ slice_split_none (λ c. c == 32) (group_id_at s g) (one_word (group_id_at s g) n.id)
words_back s g (h ∷ hs) n all =
    slice_split_at (λ c. c == 32) (group_id_at s g) 32 (group_id_at s h ++ spaced_ids s hs) (one_word (group_id_at s g) n.id) refl
    ∙ ap (λ ws. group_id_at s g ∷ ws) (words_back s h hs all.0 all.1)

places_back : (s : Setup) (gs : List ℕ) → AllByRecursion (Named s) gs → each_some (map (λ id. place_of id (map (λ (g : Group). g.id) s.groups)) (map (group_id_at s) gs)) ≡ Some gs
places_back s [] all = refl
places_back s (g ∷ gs) all = rw (all.0.place, places_back s gs all.1) refl

all_named : (s : Setup) → IsValid s → AllByRecursion (λ (g : Group). IsWritableItem g.id g.name) s.groups → (gs : List ℕ) → list_all (λ g. nat_lt g (length s.groups)) gs ≡ true → AllByRecursion (Named s) gs
all_named s valid writable [] h = tt
all_named s valid writable (g ∷ gs) h =
    let first : nat_lt g (length s.groups) ≡ true = and_left _ _ h in
    let there : g < length s.groups = grind (arith, nat_tests, first) in
    (record { id = id_at s.groups writable g there; place = place_there (λ (t : Group). t.id) s.groups g valid.groups there }, all_named s valid writable gs (and_right (nat_lt g (length s.groups)) _ h))

named : (s : Setup) (text : List ℕ) → nat_lt 0 (length text) ≡ true → groups_in s text ≡ groups_named s text
named s [] l = absurd (cc l)
named s (c ∷ cs) l = refl

longer : (a b : List ℕ) → nat_lt 0 (length a) ≡ true → nat_lt 0 (length (a ++ b)) ≡ true
longer [] b l = absurd (cc l)
longer (c ∷ cs) b l = grind (arith, nat_tests)

not_empty : (id : List ℕ) → IsId id → nat_lt 0 (length id) ≡ true
not_empty id w = and_left _ _ (and_left _ _ (and_left _ _ w))

first_named : (s : Setup) (g : ℕ) (gs : List ℕ) → AllByRecursion (Named s) (g ∷ gs) → groups_in s (group_id_at s g ++ spaced_ids s gs) ≡ Some (g ∷ gs)
first_named s g gs all =
    named s (group_id_at s g ++ spaced_ids s gs) (longer (group_id_at s g) (spaced_ids s gs) (not_empty (group_id_at s g) all.0.id))
    ∙ ap (λ ws. each_some (map (λ id. place_of id (map (λ (t : Group). t.id) s.groups)) ws)) (words_back s g gs all.0 all.1)
    ∙ places_back s (g ∷ gs) all

pub groups_back : (s : Setup) → IsValid s → AllByRecursion (λ (g : Group). IsWritableItem g.id g.name) s.groups → (gs : List ℕ) → list_all (λ g. nat_lt g (length s.groups)) gs ≡ true → groups_in s (joined_ids s gs) ≡ Some gs
groups_back s valid writable [] h = refl
groups_back s valid writable (g ∷ gs) h = ap (groups_in s) (joined_first s g gs) ∙ first_named s g gs (all_named s valid writable (g ∷ gs) h)
