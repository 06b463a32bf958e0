-- What the thaw changes of what is seen, and what it leaves.
use Rattle.std.proofs.Common.{◌≡◌, ◌⊎◌, ℕ, ◌+◌, Bool, true, false, List, [], ◌∷◌, map, length, Option, Some, None, refl, sym, ◌∙◌, ap, inl, inr}
use Rattle.std.specs.Prelude.{◌==◌, ◌||◌, nat_le, find, count_by, cond, if◌then◌else◌}
use Rattle.std.specs.List.{cons_option, filter_map, flat_map, range_with_len}
use Rattle.std.specs.Option.{option_map}
use Rattle.std.specs.Ordering.{is_lt}
use Rattle.std.specs.declared.cmp.Ordering.{Ordering}
use Rattle.std.proofs.Math.Path.{fun_ext}
use Rattle.std.proofs.lemmas.List.{length-map, map-append}
use Rattle.std.proofs.lemmas.List.Folds.{fold-map}
use Rattle.std.proofs.lemmas.Simd.{map-map}
use Rattle.contest_types.specs.Order.{place_in, in_order}
use Rattle.contest_types.specs.TeamPlaces.{team_places}
use Rattle.contest_types.specs.Clock.{reached, freeze_of, is_frozen, is_thawed}
use Rattle.contest_types.specs.Masks.{knows_all_of}
use Rattle.contest_types.specs.State.{ContestState, submissions_of, add, SetThaw}
use Rattle.contest_types.specs.Sight.{Judgement, SeenSubmission, sees_team, sees_submission, last_judgement, seen_judgement, type_of, seen_verdict, full_verdict, held_verdict, seen_submission, seen_of_team, submission_cmp, seen_submissions}
use Rattle.contest_types.specs.SightLaws.{without_judgement}
use Rattle.contest_types.specs.declared.audience.Audience.{Audience}
use Rattle.contest_types.specs.declared.audience.Audience.TheVariants.{Jury}
use Rattle.contest_types.specs.declared.submission.Submission.{Submission}
use Rattle.contest_types.proofs.ShownVerdicts.{is_shown, thaw_adds, shown_whole, shown_of}
use Rattle.contest_types.proofs.SightLemmas.{flat_map_same}

pub only_adds : (a : Audience) (now later : ℕ) (x : ContestState) (s : Submission) (j : Judgement) → is_thawed x.fixed.marks later ≡ true → seen_judgement a now x s ≡ Some j → seen_judgement a later x s ≡ Some j
only_adds a now later x s j t h =
    let more = thaw_adds (sees_submission a x s) (knows_all_of a s.team) (is_thawed x.fixed.marks now) (is_frozen x.fixed.settings x.fixed.marks s.time) (last_judgement x s) j (sym (is_shown a now x s) ∙ h) in
    is_shown a later x s ∙ rw t more

pub thawing_adds : (a : Audience) (now later thaw : ℕ) (x : ContestState) (s : Submission) (j : Judgement) → nat_le thaw later ≡ true → seen_judgement a now x s ≡ Some j → seen_judgement a later (add x (SetThaw thaw)) s ≡ Some j
thawing_adds a now later thaw x s j t h =
    let more = thaw_adds (sees_submission a x s) (knows_all_of a s.team) (is_thawed x.fixed.marks now) (is_frozen x.fixed.settings x.fixed.marks s.time) (last_judgement x s) j (sym (is_shown a now x s) ∙ h) in
    is_shown a later (add x (SetThaw thaw)) s ∙ rw t more

-- where there is no freeze moment nothing is frozen
not_held : (now : ℕ) (x : ContestState) (s : Submission) → (is_thawed x.fixed.marks now ≡ true) ⊎ (freeze_of x.fixed.settings x.fixed.marks ≡ None) → (is_thawed x.fixed.marks now ≡ true) ⊎ (is_frozen x.fixed.settings x.fixed.marks s.time ≡ false)
not_held now x s h = elim h [ inl t ↦ inl t | inr e ↦ inr (ap (λ m. reached m s.time) e) ]

pub jury_sees_last : (now : ℕ) (x : ContestState) (s : Submission) → seen_judgement Jury now x s ≡ last_judgement x s
jury_sees_last now x s = refl

pub sees_as_jury : (a : Audience) (now : ℕ) (x : ContestState) (s : Submission) → (is_thawed x.fixed.marks now ≡ true) ⊎ (freeze_of x.fixed.settings x.fixed.marks ≡ None) → sees_submission a x s ≡ true → seen_judgement a now x s ≡ seen_judgement Jury now x s
sees_as_jury a now x s h e =
    is_shown a now x s
    ∙ shown_whole (sees_submission a x s) (knows_all_of a s.team) (is_thawed x.fixed.marks now) (is_frozen x.fixed.settings x.fixed.marks s.time) (last_judgement x s) e (not_held now x s h)

pub one_of_two : (a : Audience) (now : ℕ) (x : ContestState) (s : Submission) → seen_verdict a now x s ≡ (if sees_submission a x s then (if knows_all_of a s.team || is_thawed x.fixed.marks now then full_verdict x s else held_verdict x s) else None)
one_of_two a now x s =
    ap type_of (is_shown a now x s)
    ∙ shown_of (λ (j : Judgement). j.verdict) (sees_submission a x s) (knows_all_of a s.team) (is_thawed x.fixed.marks now) (is_frozen x.fixed.settings x.fixed.marks s.time) (last_judgement x s)

-- ordering goes by what the function keeps
count_map : {X Y : Type 0} (f : X → Y) (p : X → Bool) (q : Y → Bool) → ((x : X) → q (f x) ≡ p x) → (xs : List X) → count_by q (map f xs) ≡ count_by p xs
count_map f p q h xs = fold-map (λ n y. n + cond (q y) 1 0) f 0 xs ∙ ap (λ t. count_by t xs) (fun_ext h)

place_map : {X Y : Type 0} (R : X → X → Ordering) (S : Y → Y → Ordering) (f : X → Y) → ((x y : X) → S (f x) (f y) ≡ R x y) → (xs : List X) (x : X) → place_in S (map f xs) (f x) ≡ place_in R xs x
place_map R S f h xs x = count_map f (λ y. is_lt (R y x)) (λ y. is_lt (S y (f x))) (λ y. ap is_lt (h y x)) xs

find_map : {X Y : Type 0} (f : X → Y) (p : X → Bool) (q : Y → Bool) → ((x : X) → q (f x) ≡ p x) → (xs : List X) → find q (map f xs) ≡ option_map f (find p xs)
find_map f p q h [] = refl
find_map f p q h (x ∷ xs) =
    let rest = find_map f p q h xs in
    let go : (b : Bool) → (if b then Some (f x) else find q (map f xs)) ≡ option_map f (if b then Some x else find p xs) = elim [ true ↦ refl | false ↦ rest ] in
    rw (h x) (go (p x))

cons_map : {X Y : Type 0} (f : X → Y) (o : Option X) (xs : List X) → cons_option (option_map f o) (map f xs) ≡ map f (cons_option o xs)
cons_map f None xs = refl
cons_map f (Some x) xs = refl

filter_map_made : {X Y : Type 0} (f : X → Y) (F : ℕ → Option X) (G : ℕ → Option Y) → ((k : ℕ) → G k ≡ option_map f (F k)) → (ks : List ℕ) → filter_map G ks ≡ map f (filter_map F ks)
filter_map_made f F G h [] = refl
filter_map_made f F G h (k ∷ ks) = rw (h k, filter_map_made f F G h ks) (cons_map f (F k) (filter_map F ks))

pub in_order_map : {X Y : Type 0} (R : X → X → Ordering) (S : Y → Y → Ordering) (f : X → Y) → ((x y : X) → S (f x) (f y) ≡ R x y) → (xs : List X) → in_order S (map f xs) ≡ map f (in_order R xs)
in_order_map {X} {Y} R S f h xs =
    let F : ℕ → Option X = λ k. find (λ x. place_in R xs x == k) xs in
    let G : ℕ → Option Y = λ k. find (λ y. place_in S (map f xs) y == k) (map f xs) in
    let each : (k : ℕ) → G k ≡ option_map f (F k) = λ k. find_map f (λ x. place_in R xs x == k) (λ y. place_in S (map f xs) y == k) (λ x. ap (λ n. n == k) (place_map R S f h xs x)) xs in
    filter_map_made f F G each (range_with_len 0 (length (map f xs))) ∙ ap (λ n. map f (filter_map F (range_with_len 0 n))) (length-map xs f)

map_flat : {X Y Z : Type 0} (g : Y → Z) (f : X → List Y) (xs : List X) → map g (flat_map f xs) ≡ flat_map (λ x. map g (f x)) xs
map_flat g f [] = refl
map_flat g f (x ∷ xs) = rw (map-append, map_flat g f xs) refl

-- but for the verdicts, what is seen of a team doesn't depend on the moment
team_at : (a : Audience) (now later : ℕ) (x : ContestState) (team : ℕ) → map without_judgement (seen_of_team a now x team) ≡ map without_judgement (seen_of_team a later x team)
team_at a now later x team =
    let own = submissions_of team x.submissions in
    let go : (b : Bool) → map without_judgement (if b then map (seen_submission a now x) own else []) ≡ map without_judgement (if b then map (seen_submission a later x) own else []) =
    elim [ true ↦ (map-map without_judgement (seen_submission a now x) own ∙ sym (map-map without_judgement (seen_submission a later x) own)) | false ↦ refl ] in
    go (sees_team a x.fixed.settings team)

abbrev gathered : Audience → ℕ → ContestState → List SeenSubmission
gathered a now x = flat_map (seen_of_team a now x) (team_places x.fixed.settings)

bare : (a : Audience) (now : ℕ) (x : ContestState) → map without_judgement (seen_submissions a now x) ≡ in_order (submission_cmp x.fixed.settings) (map without_judgement (gathered a now x))
bare a now x = sym (in_order_map (submission_cmp x.fixed.settings) (submission_cmp x.fixed.settings) without_judgement (λ v w. refl) (gathered a now x))

pub same_submissions : (a : Audience) (now later : ℕ) (x : ContestState) → map without_judgement (seen_submissions a now x) ≡ map without_judgement (seen_submissions a later x)
same_submissions a now later x =
    let places = team_places x.fixed.settings in
    let same : map without_judgement (gathered a now x) ≡ map without_judgement (gathered a later x) =
    map_flat without_judgement (seen_of_team a now x) places
    ∙ (flat_map_same (λ team. map without_judgement (seen_of_team a now x team)) (λ team. map without_judgement (seen_of_team a later x team)) (team_at a now later x) places
    ∙ sym (map_flat without_judgement (seen_of_team a later x) places)) in
    bare a now x ∙ (ap (in_order (submission_cmp x.fixed.settings)) same ∙ sym (bare a later x))
