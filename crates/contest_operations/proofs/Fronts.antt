-- What stands in the front of a list, where a contest has grown; and what two texts name there.
use Rattle.std.proofs.Common.{◌≡◌, ◌∙◌, ◌+◌, ◌<◌, ℕ, zero, suc, Bool, true, false, List, [], ◌∷◌, ◌++◌, length, map, Option, Some, None, refl, sym, ap, arith}
use Rattle.std.specs.Prelude.{◌==◌, find, bytes_eq, slice_get}
use Rattle.std.specs.List.{position_from}
use Rattle.std.specs.Option.{option_map_or, option_or}
use Rattle.std.proofs.lemmas.Bool.{eq-eqb}
use Rattle.std.proofs.lemmas.Bool.Decides.{nat_tests}
use Rattle.std.proofs.Math.Path.{fun_ext}
use Rattle.std.proofs.lemmas.Simd.{map-map}
use Rattle.std.proofs.lemmas.List.{length-map, map-append}
use Rattle.std.proofs.lemmas.List.Folds.{find-append}
use Rattle.contest_types.specs.Places.{place_of}
use Rattle.contest_types.specs.State.{ContestState, FixedPart}
use Rattle.contest_types.specs.declared.contest.ContestHead.{ContestHead}
use Rattle.contest_types.specs.declared.objects.Team.{Team}
use Rattle.contest_types.proofs.GrownSettings.{at_front}
use Rattle.contest_types.proofs.PlaceLemmas.{differs, same_bytes, bytes_same}
use Rattle.contest_rules.specs.Submitting.{same_text}
use Rattle.contest_operations.specs.Growing.{Grows, HasRows, IsFront, unnamed}

-- what stands in the front of a list stands there in the list

pub find_front : {X : Type 0} (p : X → Bool) (xs ys : List X) (x : X) → IsFront xs ys → find p xs ≡ Some x → find p ys ≡ Some x
find_front p xs ys x (more, e) found = ap (find p) e ∙ (find-append p xs more ∙ ap (λ o. option_or o (find p more)) found)

position_front : {X : Type 0} (p : X → Bool) (n : ℕ) (xs more : List X) (i : ℕ) → position_from p n xs ≡ Some i → position_from p n (xs ++ more) ≡ Some i
position_front p n [] more i h = absurd (cc h)
position_front {X} p n (x ∷ xs) more i h =
    let go : (b : Bool) → p x ≡ b → position_from p n ((x ∷ xs) ++ more) ≡ Some i = elim [
      | true ↦ λ e. rw e (rw e at h)
      | false ↦ λ e. rw e (position_front p (n + 1) xs more i (rw e at h))
    ] in
    go (p x) refl

pub place_front : {T : Type 0} (id : T → List ℕ) (bytes : List ℕ) (xs ys : List T) (i : ℕ) → IsFront xs ys → place_of bytes (map id xs) ≡ Some i → place_of bytes (map id ys) ≡ Some i
place_front id bytes xs ys i (more, e) h =
    ap (λ l. place_of bytes (map id l)) e ∙ (ap (place_of bytes) (map-append id xs more) ∙ position_front (bytes_eq bytes) 0 (map id xs) (map id more) i h)

pub some_found : {X : Type 0} (p : X → Bool) (xs : List X) (x : X) → find p xs ≡ Some x → 0 < length xs
some_found p [] x h = absurd (cc h)
some_found p (y ∷ ys) x h = omega arith

-- two texts have one place where they are the same

not_before : (id : List ℕ) (n : ℕ) (ids : List (List ℕ)) (i : ℕ) → position_from (bytes_eq id) n ids ≡ Some i → (k : ℕ) × (i ≡ n + k)
not_before id n [] i h = absurd (cc h)
not_before id n (x ∷ xs) i h =
    let go : (b : Bool) → bytes_eq id x ≡ b → (k : ℕ) × (i ≡ n + k) = elim [
      | true ↦ λ e. (let f : Some n ≡ Some i = rw e at h in let g : n ≡ i = cc f in (0, omega (arith, g)))
      | false ↦ λ e. (let f = not_before id (n + 1) xs i (rw e at h) in let g = f.1 in (suc f.0, omega (arith, g)))
    ] in
    go (bytes_eq id x) refl

apart : (n i k : ℕ) → i ≡ (n + 1) + k → (n == i) ≡ false
apart n i k e = grind (arith, nat_tests, e)

apart_from : (n i k : ℕ) → i ≡ (n + 1) + k → (i == n) ≡ false
apart_from n i k e = grind (arith, nat_tests, e)

pub same_place_from : (a b : List ℕ) (n : ℕ) (ids : List (List ℕ)) (i j : ℕ) → position_from (bytes_eq a) n ids ≡ Some i → position_from (bytes_eq b) n ids ≡ Some j → (i == j) ≡ bytes_eq a b
same_place_from a b n [] i j h k = absurd (cc h)
same_place_from a b n (x ∷ xs) i j h k =
    let by : (p q : Bool) → bytes_eq a x ≡ p → bytes_eq b x ≡ q → (i == j) ≡ bytes_eq a b = elim [
      | true ↦ elim [
        | true ↦ λ e f. (let is : Some n ≡ Some i = rw e at h in let js : Some n ≡ Some j = rw f at k in let g : i ≡ n = cc is in let m : j ≡ n = cc js in
            let whole : a ≡ b = same_bytes a x e ∙ sym (same_bytes b x f) in
            eq-eqb i j (g ∙ sym m) ∙ sym (ap (λ c. bytes_eq a c) (sym whole) ∙ bytes_same a))
        | false ↦ λ e f. (let is : Some n ≡ Some i = rw e at h in let g : n ≡ i = cc is in let m = not_before b (n + 1) xs j (rw f at k) in
            ap (λ u. u == j) (sym g) ∙ (apart n j m.0 m.1 ∙ sym (ap (λ c. bytes_eq c b) (same_bytes a x e) ∙ differs b x f)))
      ]
      | false ↦ elim [
        | true ↦ λ e f. (let js : Some n ≡ Some j = rw f at k in let g : n ≡ j = cc js in let m = not_before a (n + 1) xs i (rw e at h) in
            ap (λ u. i == u) (sym g) ∙ (apart_from n i m.0 m.1 ∙ sym (ap (bytes_eq a) (same_bytes b x f) ∙ e)))
        | false ↦ λ e f. same_place_from a b (n + 1) xs i j (rw e at h) (rw f at k)
      ]
    ] in
    by (bytes_eq a x) (bytes_eq b x) refl refl

-- the fixed part as far as what is posted and its value go by it
pub record Extends (f g : FixedPart) : Type 0 where
  pub id : g.settings.head.id ≡ f.settings.head.id
  pub languages : IsFront f.settings.languages g.settings.languages
  pub problems : IsFront f.settings.problems g.settings.problems
  pub groups : IsFront f.settings.groups g.settings.groups
  pub teams : IsFront (map unnamed f.settings.teams) (map unnamed g.settings.teams)
  pub start : g.marks.start ≡ f.marks.start

pub extends : (x y : ContestState) → Grows x y → HasRows x → Extends x.fixed y.fixed
extends x y h some = record { id = ap (λ (head : ContestHead). head.id) h.head; languages = h.languages; problems = h.problems; groups = h.groups; teams = h.teams; start = h.start some }

-- what is made of a row at a place, and of what the rows are mapped to
at_mapped : {X Y Z : Type 0} (f : X → Y) (g : Y → Z) (none : Z) (xs : List X) (i : ℕ) → option_map_or g (slice_get (map f xs) i) none ≡ option_map_or (λ x. g (f x)) (slice_get xs i) none
at_mapped f g none [] i = refl
at_mapped f g none (x ∷ xs) zero = refl
at_mapped f g none (x ∷ xs) (suc i) = at_mapped f g none xs i

-- what a team that is there has beside its name it has still
pub team_stays : {Y : Type 0} (h : Team → Y) (none : Y) → ((t : Team) → h (unnamed t) ≡ h t) → (f g : FixedPart) (i : ℕ) → Extends f g → i < length f.settings.teams
    → option_map_or h (slice_get g.settings.teams i) none ≡ option_map_or h (slice_get f.settings.teams i) none
team_stays h none same f g i e there =
    let apart : (ts : List Team) → option_map_or h (slice_get (map unnamed ts) i) none ≡ option_map_or h (slice_get ts i) none =
    λ ts. at_mapped unnamed h none ts i ∙ ap (λ (k : Team → _). option_map_or k (slice_get ts i) none) (fun_ext same) in
    let within : i < length (map unnamed f.settings.teams) = omega (arith, length-map f.settings.teams unnamed, there) in
    sym (apart g.settings.teams) ∙ (ap (λ o. option_map_or h o none) (at_front (map unnamed f.settings.teams) (map unnamed g.settings.teams) i e.teams within) ∙ apart f.settings.teams)

-- a team's id has the place that it had
pub team_place_stays : (f g : FixedPart) (id : List ℕ) (i : ℕ) → Extends f g → place_of id (map (λ (t : Team). t.id) f.settings.teams) ≡ Some i → place_of id (map (λ (t : Team). t.id) g.settings.teams) ≡ Some i
team_place_stays f g id i e at =
    let ids : Team → List ℕ = λ t. t.id in
    ap (place_of id) (sym (map-map ids unnamed g.settings.teams)) ∙ place_front ids id (map unnamed f.settings.teams) (map unnamed g.settings.teams) i e.teams (ap (place_of id) (map-map ids unnamed f.settings.teams) ∙ at)

-- texts that may be none

pub equal_texts : (o q : Option (List ℕ)) → same_text o q ≡ true → o ≡ q
equal_texts None None h = refl
equal_texts (Some a) (Some b) h = ap Some (same_bytes a b h)
equal_texts None (Some b) h = absurd (cc h)
equal_texts (Some a) None h = absurd (cc h)

pub same_as_itself : (o : Option (List ℕ)) → same_text o o ≡ true
same_as_itself None = refl
same_as_itself (Some e) = bytes_same e
