-- A board is made of the cells of the teams that it shows, and of nothing else.
use Rattle.std.proofs.Common.{◌≡◌, ℕ, ◌+◌, Bool, true, false, List, [], ◌∷◌, map, filter, Option, Some, None, refl, sym, ap, subst, ◌∙◌}
use Rattle.std.specs.Prelude.{◌==◌, ◌||◌, find, count_by, cond, length, if◌then◌else◌}
use Rattle.std.specs.List.{cons_option, filter_map, range_with_len}
use Rattle.std.specs.Ordering.{is_lt, nat_cmp, ordering_then}
use Rattle.std.specs.Cmp.Lexicographic.{slice_cmp}
use Rattle.std.specs.declared.cmp.Ordering.{Ordering}
use Rattle.std.proofs.Math.Path.{fun_ext}
use Rattle.std.proofs.lemmas.List.Sums.{sum_by-cons}
use Rattle.contest_types.specs.Setup.{Setup}
use Rattle.contest_types.specs.TeamPlaces.{team_places, name_at, team_id_at, is_of_group, is_public}
use Rattle.contest_types.specs.Order.{place_in, in_order}
use Rattle.contest_types.specs.Masks.{knows_all_of}
use Rattle.contest_types.specs.State.{FixedPart, ContestState}
use Rattle.contest_types.specs.Sight.{sees_team}
use Rattle.contest_types.specs.Alike.{Alike, MayBeHeld}
use Rattle.contest_types.specs.declared.audience.Audience.{Audience}
use Rattle.contest_types.proofs.PlaceLemmas.{and_left}
use Rattle.contest_score.specs.declared.cell.Cell.{Cell}
use Rattle.contest_score.specs.declared.score.Score.{Score}
use Rattle.contest_score.specs.declared.row.Row.{Row}
use Rattle.contest_score.specs.Ranking.{cells_of_team, score_of_team, beats, shown_teams, rank_of, row_cmp, row_of, board_rows, is_on_board}
use Rattle.contest_score.specs.Contest.{seen_cell, board_for}
use Rattle.contest_score.proofs.MaskLemmas.{cells_alike}

-- tests that agree on what is kept
count_same : {X : Type 0} (kept p q : X → Bool) → ((x : X) → kept x ≡ true → p x ≡ q x) → (xs : List X) → count_by p (filter kept xs) ≡ count_by q (filter kept xs)
count_same kept p q h [] = refl
count_same {X} kept p q h (x ∷ xs) =
    let rest = count_same kept p q h xs in
    let one : (r : X → Bool) → count_by r (x ∷ filter kept xs) ≡ cond (r x) 1 0 + count_by r (filter kept xs) = λ r. sum_by-cons (λ y. cond (r y) 1 0) x (filter kept xs) in
    let go : (b : Bool) → kept x ≡ b → count_by p (if b then x ∷ filter kept xs else filter kept xs) ≡ count_by q (if b then x ∷ filter kept xs else filter kept xs) =
    elim [ true ↦ λ e. one p ∙ (rw (h x e, rest) (sym (one q))) | false ↦ λ e. rest ] in
    go (kept x) refl

find_same : {X : Type 0} (kept p q : X → Bool) → ((x : X) → kept x ≡ true → p x ≡ q x) → (xs : List X) → find p (filter kept xs) ≡ find q (filter kept xs)
find_same kept p q h [] = refl
find_same {X} kept p q h (x ∷ xs) =
    let rest = find_same kept p q h xs in
    let go : (b : Bool) → kept x ≡ b → find p (if b then x ∷ filter kept xs else filter kept xs) ≡ find q (if b then x ∷ filter kept xs else filter kept xs) =
    elim [ true ↦ λ e. rw (h x e, rest) refl | false ↦ λ e. rest ] in
    go (kept x) refl

-- what is found is kept
found_kept : {X : Type 0} (kept p : X → Bool) (xs : List X) (x : X) → find p (filter kept xs) ≡ Some x → kept x ≡ true
found_kept kept p [] x h = absurd (cc h)
found_kept {X} kept p (y ∷ xs) x h =
    let found : (b : Bool) → kept y ≡ true → (if b then Some y else find p (filter kept xs)) ≡ Some x → kept x ≡ true =
    elim [ true ↦ λ e k. (let same : y ≡ x = cc k in subst (λ z. kept z ≡ true) same e) | false ↦ λ e k. found_kept kept p xs x k ] in
    let go : (b : Bool) → kept y ≡ b → find p (if b then y ∷ filter kept xs else filter kept xs) ≡ Some x → kept x ≡ true =
    elim [ true ↦ λ e k. found (p y) e k | false ↦ λ e k. found_kept kept p xs x k ] in
    go (kept y) refl h

-- orders that agree on what is kept put it in the same order
order_same : {X : Type 0} (kept : X → Bool) (R S : X → X → Ordering) → ((x y : X) → kept x ≡ true → kept y ≡ true → R x y ≡ S x y) → (xs : List X) → in_order R (filter kept xs) ≡ in_order S (filter kept xs)
order_same {X} kept R S h xs =
    let L = filter kept xs in
    let place : (x : X) → kept x ≡ true → place_in R L x ≡ place_in S L x = λ x e. count_same kept (λ y. is_lt (R y x)) (λ y. is_lt (S y x)) (λ y k. ap is_lt (h y x k e)) xs in
    let at : (k : ℕ) → find (λ x. place_in R L x == k) L ≡ find (λ x. place_in S L x == k) L = λ k. find_same kept (λ x. place_in R L x == k) (λ x. place_in S L x == k) (λ x e. ap (λ n. n == k) (place x e)) xs in
    ap (λ f. filter_map f (range_with_len 0 (length L))) (fun_ext at)

same_two : {X Y Z : Type 0} (f : X → Y → Z) {a b : X} {c d : Y} → a ≡ b → c ≡ d → f a c ≡ f b d
same_two f {a} {b} {c} {d} e k = ap (λ x. f x c) e ∙ ap (f b) k

found_next : {X Y : Type 0} (f g : X → Y) (o : Option X) (xs : List X) → ((x : X) → o ≡ Some x → f x ≡ g x) → map f xs ≡ map g xs → map f (cons_option o xs) ≡ map g (cons_option o xs)
found_next f g None xs h rest = rest
found_next f g (Some x) xs h rest = rw (h x refl, rest) refl

map_found : {X Y : Type 0} (f g : X → Y) (F : ℕ → Option X) → ((k : ℕ) (x : X) → F k ≡ Some x → f x ≡ g x) → (ks : List ℕ) → map f (filter_map F ks) ≡ map g (filter_map F ks)
map_found f g F h [] = refl
map_found {X} {Y} f g F h (k ∷ ks) = found_next f g (F k) (filter_map F ks) (h k) (map_found f g F h ks)

pub board_same : (s : Setup) (shown : ℕ → Bool) (c d : ℕ → ℕ → Cell) → ((u p : ℕ) → shown u ≡ true → c u p ≡ d u p) → board_rows s shown c ≡ board_rows s shown d
board_same s shown c d h =
    let team : (u : ℕ) → shown u ≡ true → c u ≡ d u = λ u e. fun_ext (λ p. h u p e) in
    let cells : (u : ℕ) → shown u ≡ true → cells_of_team s c u ≡ cells_of_team s d u = λ u e. rw (team u e) refl in
    let score : (u : ℕ) → shown u ≡ true → score_of_team s c u ≡ score_of_team s d u = λ u e. rw (team u e) refl in
    let rank : (u : ℕ) → shown u ≡ true → rank_of s shown c u ≡ rank_of s shown d u =
    λ u e. ap (λ n. 1 + n) (count_same shown (λ w. beats (score_of_team s c w) (score_of_team s c u)) (λ w. beats (score_of_team s d w) (score_of_team s d u)) (λ w k. same_two beats (score w k) (score u e)) (team_places s)) in
    let names : ℕ → ℕ → Ordering = λ u w. ordering_then (slice_cmp nat_cmp (name_at s u) (name_at s w)) (slice_cmp nat_cmp (team_id_at s u) (team_id_at s w)) in
    let order : (u w : ℕ) → shown u ≡ true → shown w ≡ true → row_cmp s shown c u w ≡ row_cmp s shown d u w =
    λ u w e k. same_two (λ m n. ordering_then (nat_cmp m n) (names u w)) (rank u e) (rank w k) in
    let make : ℕ → ℕ → Score → List Cell → Row = λ u r t cs. record { team = u; rank = r; score = t; cells = cs } in
    let row : (u : ℕ) → shown u ≡ true → row_of s shown c u ≡ row_of s shown d u =
    λ u e. ap (λ r. make u r (score_of_team s c u) (cells_of_team s c u)) (rank u e) ∙ (ap (λ t. make u (rank_of s shown d u) t (cells_of_team s c u)) (score u e) ∙ ap (make u (rank_of s shown d u) (score_of_team s d u)) (cells u e)) in
    let L = shown_teams s shown in
    let at : ℕ → Option ℕ = λ k. find (λ x. place_in (row_cmp s shown d) L x == k) L in
    ap (map (row_of s shown c)) (order_same shown (row_cmp s shown c) (row_cmp s shown d) order (team_places s))
    ∙ map_found (row_of s shown c) (row_of s shown d) at (λ k u e. row u (found_kept shown (λ x. place_in (row_cmp s shown d) L x == k) (team_places s) u e)) (range_with_len 0 (length L))

-- what anyone sees is seen
pub seen_of_public : (a : Audience) (s : Setup) (team : ℕ) → is_public s team ≡ true → sees_team a s team ≡ true
seen_of_public a s team e =
    let go : (b : Bool) → (b || true) ≡ true = elim [ true ↦ refl | false ↦ refl ] in
    rw e (go (knows_all_of a team))

-- no board shows a hidden team
pub on_board_public : (s : Setup) (group : Option ℕ) (team : ℕ) → is_on_board s group team ≡ true → is_public s team ≡ true
on_board_public s None team e = e
on_board_public s (Some group) team e = and_left (is_public s team) (is_of_group s group team) e

pub board_alike : (a : Audience) (now : ℕ) (group : Option ℕ) (x y : ContestState) → MayBeHeld a now x → Alike a x y → board_for a now group x ≡ board_for a now group y
board_alike a now group x y m h =
    let s = x.fixed.settings in
    board_same s (is_on_board s group) (seen_cell a now x) (seen_cell a now y) (λ u p e. cells_alike a now x y u p m h (seen_of_public a s u (on_board_public s group u e)))
    ∙ ap (λ (f : FixedPart). board_rows f.settings (is_on_board f.settings group) (seen_cell a now y)) h.fixed
