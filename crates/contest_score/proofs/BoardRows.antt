-- What a board has: each shown team once, each problem once, and ranks that are shared and skipped.
use Rattle.std.proofs.Common.{◌≡◌, ℕ, ◌+◌, ◌<◌, Bool, true, false, not, List, [], ◌∷◌, length, map, refl, sym, ap, subst, ◌∙◌, arith, Ordering}
use Rattle.std.specs.Prelude.{◌↔◌, ◌==◌, count_by}
use Rattle.std.specs.List.{range_with_len}
use Rattle.std.specs.Cmp.{IsTotalOrder}
use Rattle.std.specs.Ordering.{is_lt, ordering_reverse}
use Rattle.std.specs.declared.cmp.Ordering.TheVariants.{Less, Equal, Greater}
use Rattle.std.proofs.lemmas.Bool.{false≢true}
use Rattle.std.proofs.lemmas.Cmp.{on_total, tied_itself}
use Rattle.std.proofs.lemmas.List.{length-map}
use Rattle.std.proofs.lemmas.List.FromFn.{length-range_with_len}
use Rattle.std.proofs.lemmas.Map.Lookups.{exact_bytes}
use Rattle.contest_types.specs.Setup.{Setup, IsValid}
use Rattle.contest_types.specs.TeamPlaces.{team_places}
use Rattle.contest_types.specs.Order.{Has, IsInOrder, place_in, in_order}
use Rattle.contest_types.specs.declared.objects.Team.{Team}
use Rattle.contest_types.specs.declared.objects.Problem.{Problem}
use Rattle.contest_types.proofs.Different.{one_place}
use Rattle.contest_types.proofs.InOrderLemmas.{nothing_added, nothing_lost, map_has, has_filter, filter_has, place_less, is_less}
use Rattle.contest_types.proofs.Rising.{rising, place_tied}
use Rattle.contest_types.proofs.SeenWhole.{has_team, has_below}
use Rattle.contest_score.specs.declared.cell.Cell.{Cell}
use Rattle.contest_score.specs.declared.row.Row.{Row}
use Rattle.contest_score.specs.Ranking.{board_rows, shown_teams, row_cmp, row_of, rank_of, score_of_team, problem_cmp, problem_order, score_cmp, beats}
use Rattle.contest_score.specs.BoardLaws.{teams_of, stands_above}
use Rattle.contest_types.proofs.ProblemOrder.{problem_cmp_total, then_equal}
use Rattle.contest_score.proofs.BoardOrder.{row_cmp_total, count_by_map}
use Rattle.contest_score.proofs.Ranks.{score_cmp_total}
use Rattle.contest_score.proofs.SameElements.{other, weaker_order, mapped_order, same_count, same_length, place_within, places_apart, all_apart, differ}

-- the teams of the rows, in the order of the board
abbrev pub ranked_teams : Setup → (ℕ → Bool) → (ℕ → ℕ → Cell) → List ℕ
ranked_teams s shown cells = in_order (row_cmp s shown cells) (shown_teams s shown)

teams_are : (s : Setup) (shown : ℕ → Bool) (cells : ℕ → ℕ → Cell) (us : List ℕ) → teams_of (map (row_of s shown cells) us) ≡ us
teams_are s shown cells [] = refl
teams_are s shown cells (u ∷ us) = ap (λ ws. u ∷ ws) (teams_are s shown cells us)

team_within : (s : Setup) (shown : ℕ → Bool) (u : ℕ) → Has (shown_teams s shown) u → u < length s.teams
team_within s shown u h = place_within (length s.teams) u (filter_has shown (team_places s) u h).0

-- teams that tie are one
no_ties : (s : Setup) → IsValid s → (shown : ℕ → Bool) (cells : ℕ → ℕ → Cell) (u w : ℕ) → Has (shown_teams s shown) u → Has (shown_teams s shown) w → row_cmp s shown cells w u ≡ Equal → w ≡ u
no_ties s v shown cells u w h k e =
    one_place (λ (t : Team). t.id) s.teams v.teams w u (team_within s shown w k) (team_within s shown u h) (exact_bytes _ _ (then_equal _ _ (then_equal _ _ e)))

pub ranked : (s : Setup) → IsValid s → (shown : ℕ → Bool) (cells : ℕ → ℕ → Cell) (u : ℕ) → Has (shown_teams s shown) u → Has (ranked_teams s shown cells) u
ranked s v shown cells u h = nothing_lost (row_cmp_total s shown cells) (shown_teams s shown) u h (λ w k e. no_ties s v shown cells u w h k e)

pub shown_team_has : (s : Setup) (shown : ℕ → Bool) (u : ℕ) → u < length s.teams → shown u ≡ true → Has (shown_teams s shown) u
shown_team_has s shown u l e = has_filter shown (team_places s) u (has_team s u l) e

pub shown_teams_stand : (s : Setup) (shown : ℕ → Bool) (cells : ℕ → ℕ → Cell) → IsValid s → (team : ℕ) → Has (teams_of (board_rows s shown cells)) team ↔ ((team < length s.teams) × (shown team ≡ true))
shown_teams_stand s shown cells v team =
    let same = teams_are s shown cells (ranked_teams s shown cells) in
    let to : Has (teams_of (board_rows s shown cells)) team → (team < length s.teams) × (shown team ≡ true) = λ h.
    (let there : Has (shown_teams s shown) team = nothing_added (row_cmp s shown cells) (shown_teams s shown) team (subst (λ us. Has us team) same h) in
    (team_within s shown team there, (filter_has shown (team_places s) team there).1)) in
    let from : (team < length s.teams) × (shown team ≡ true) → Has (teams_of (board_rows s shown cells)) team = λ h.
    subst (λ us. Has us team) (sym same) (ranked s v shown cells team (shown_team_has s shown team h.0 h.1)) in
    (to, from)

-- what comes before another is another
other_by : {R : ℕ → ℕ → Ordering} (o : IsTotalOrder R) (u w : ℕ) → is_lt (R u w) ≡ true → other u w ≡ true
other_by {R} o u w h = differ u w (λ e. false≢true (sym (ap is_lt (tied_itself o u)) ∙ (ap (λ z. is_lt (R u z)) e ∙ h)))

ordered_apart : {R : ℕ → ℕ → Ordering} (o : IsTotalOrder R) (us : List ℕ) → IsInOrder other (in_order R us)
ordered_apart {R} o us = weaker_order (λ u w. is_lt (R u w)) other (λ u w h. other_by o u w h) (in_order R us) (rising o us)

pub no_team_stands_twice : (s : Setup) (shown : ℕ → Bool) (cells : ℕ → ℕ → Cell) → IsInOrder (λ u w. not (w == u)) (teams_of (board_rows s shown cells))
no_team_stands_twice s shown cells = rw (teams_are s shown cells (ranked_teams s shown cells)) (ordered_apart (row_cmp_total s shown cells) (shown_teams s shown))

pub rows_stand_in_order : (s : Setup) (shown : ℕ → Bool) (cells : ℕ → ℕ → Cell) → IsInOrder (stands_above s) (board_rows s shown cells)
rows_stand_in_order s shown cells = mapped_order (stands_above s) (row_of s shown cells) (ranked_teams s shown cells) (rising (row_cmp_total s shown cells) (shown_teams s shown))

-- a row is that of its team, which is shown
pub record IsRowOf (s : Setup) (shown : ℕ → Bool) (cells : ℕ → ℕ → Cell) (r : Row) : Type 0 where
  pub is : r ≡ row_of s shown cells r.team
  pub there : Has (shown_teams s shown) r.team

pub row_is : (s : Setup) (shown : ℕ → Bool) (cells : ℕ → ℕ → Cell) (r : Row) → Has (board_rows s shown cells) r → IsRowOf s shown cells r
row_is s shown cells r h =
    let m = map_has (row_of s shown cells) (ranked_teams s shown cells) r h in
    let team : m.item ≡ r.team = sym (ap (λ (q : Row). q.team) m.is) in
    record {
      is = m.is ∙ ap (row_of s shown cells) team;
      there = subst (λ u. Has (shown_teams s shown) u) team (nothing_added (row_cmp s shown cells) (shown_teams s shown) m.item m.there);
    }

problem_there : (s : Setup) (p : ℕ) → Has (problem_order s) p → p < length s.problems
problem_there s p h = place_within (length s.problems) p (nothing_added (problem_cmp s.problems) (range_with_len 0 (length s.problems)) p h)

pub problem_stands : (s : Setup) → IsValid s → (p : ℕ) → p < length s.problems → Has (problem_order s) p
problem_stands s v p l =
    nothing_lost (problem_cmp_total s.problems) (range_with_len 0 (length s.problems)) p (has_below (length s.problems) p l)
    (λ q h e. one_place (λ (t : Problem). t.id) s.problems v.problems q p (place_within (length s.problems) q h) l (exact_bytes _ _ (then_equal _ _ e)))

pub problems_stand_once : (s : Setup) → IsValid s → ((problem : ℕ) → Has (problem_order s) problem ↔ (problem < length s.problems)) × IsInOrder (λ p q. is_lt (problem_cmp s.problems p q)) (problem_order s)
problems_stand_once s v = ((λ p. (problem_there s p, problem_stands s v p)), rising (problem_cmp_total s.problems) (range_with_len 0 (length s.problems)))

many_problems : (s : Setup) → IsValid s → length (problem_order s) ≡ length s.problems
many_problems s v =
    let n = length s.problems in
    same_length (problem_order s) (range_with_len 0 n) (ordered_apart (problem_cmp_total s.problems) (range_with_len 0 n)) (all_apart n)
    (λ p h. has_below n p (problem_there s p h)) (λ p h. problem_stands s v p (place_within n p h))
    ∙ length-range_with_len 0 n

pub rows_have_each_problem : (s : Setup) (shown : ℕ → Bool) (cells : ℕ → ℕ → Cell) → IsValid s → (r : Row) → Has (board_rows s shown cells) r → (r.cells ≡ map (cells r.team) (problem_order s)) × (length r.cells ≡ length s.problems)
rows_have_each_problem s shown cells v r h =
    let own : r.cells ≡ map (cells r.team) (problem_order s) = ap (λ (q : Row). q.cells) (row_is s shown cells r h).is in
    (own, ap length own ∙ (length-map (problem_order s) (cells r.team) ∙ many_problems s v))

-- a count over the shown teams is one over the rows
counted_rows : (s : Setup) → IsValid s → (shown : ℕ → Bool) (cells : ℕ → ℕ → Cell) (p : Row → Bool) → count_by (λ u. p (row_of s shown cells u)) (shown_teams s shown) ≡ count_by p (board_rows s shown cells)
counted_rows s v shown cells p =
    same_count (λ u. p (row_of s shown cells u)) (shown_teams s shown) (ranked_teams s shown cells) (places_apart shown (length s.teams)) (ordered_apart (row_cmp_total s shown cells) (shown_teams s shown))
    (ranked s v shown cells) (nothing_added (row_cmp s shown cells) (shown_teams s shown))
    ∙ sym (count_by_map p (row_of s shown cells) (ranked_teams s shown cells))

pub ranks_count_the_better : (s : Setup) (shown : ℕ → Bool) (cells : ℕ → ℕ → Cell) → IsValid s → (r : Row) → Has (board_rows s shown cells) r → r.rank ≡ 1 + count_by (λ (q : Row). beats q.score r.score) (board_rows s shown cells)
ranks_count_the_better s shown cells v r h =
    let is = (row_is s shown cells r h).is in
    let score : r.score ≡ score_of_team s cells r.team = ap (λ (q : Row). q.score) is in
    let rank : r.rank ≡ rank_of s shown cells r.team = ap (λ (q : Row). q.rank) is in
    rank ∙ (ap (λ n. 1 + n) (counted_rows s v shown cells (λ (q : Row). beats q.score (score_of_team s cells r.team)))
    ∙ ap (λ z. 1 + count_by (λ (q : Row). beats q.score z) (board_rows s shown cells)) (sym score))

abbrev team_cmp : Setup → (ℕ → ℕ → Cell) → ℕ → ℕ → Ordering
team_cmp s cells u w = score_cmp (score_of_team s cells u) (score_of_team s cells w)

team_cmp_total : (s : Setup) (cells : ℕ → ℕ → Cell) → IsTotalOrder (team_cmp s cells)
team_cmp_total s cells = on_total (score_of_team s cells) score_cmp_total

rank_place : (s : Setup) (shown : ℕ → Bool) (cells : ℕ → ℕ → Cell) (u : ℕ) → rank_of s shown cells u ≡ 1 + place_in (team_cmp s cells) (shown_teams s shown) u
rank_place s shown cells u = refl

-- where neither is less they tie
tied : {X : Type 0} {R : X → X → Ordering} (o : IsTotalOrder R) (x y : X) → is_lt (R x y) ≡ false → is_lt (R y x) ≡ false → (r : Ordering) → R x y ≡ r → R x y ≡ Equal
tied o x y h k Less e = absurd (false≢true (sym h ∙ ap is_lt e))
tied o x y h k Equal e = e
tied o x y h k Greater e = absurd (false≢true (sym k ∙ ap is_lt (o.antisymm y x ∙ ap ordering_reverse e)))

lower : (s : Setup) (shown : ℕ → Bool) (cells : ℕ → ℕ → Cell) (u w : ℕ) → Has (shown_teams s shown) u → team_cmp s cells u w ≡ Less → rank_of s shown cells u < rank_of s shown cells w
lower s shown cells u w h e =
    let less = place_less (team_cmp_total s cells) (shown_teams s shown) u w h e in
    omega (arith, rank_place s shown cells u, rank_place s shown cells w, less)

equal : (s : Setup) (shown : ℕ → Bool) (cells : ℕ → ℕ → Cell) (u w : ℕ) → team_cmp s cells u w ≡ Equal → rank_of s shown cells u ≡ rank_of s shown cells w
equal s shown cells u w e =
    rank_place s shown cells u ∙ (ap (λ n. 1 + n) (place_tied (team_cmp_total s cells) (shown_teams s shown) u w e) ∙ sym (rank_place s shown cells w))

better : (s : Setup) (shown : ℕ → Bool) (cells : ℕ → ℕ → Cell) (u w : ℕ) → Has (shown_teams s shown) w → rank_of s shown cells u < rank_of s shown cells w → (r : Ordering) → team_cmp s cells u w ≡ r → is_lt (team_cmp s cells u w) ≡ true
better s shown cells u w h l Less e = ap is_lt e
better s shown cells u w h l Equal e = absurd (omega (arith, l, equal s shown cells u w e))
better s shown cells u w h l Greater e = absurd (omega (arith, l, lower s shown cells w u h ((team_cmp_total s cells).antisymm w u ∙ ap ordering_reverse e)))

teams_follow : (s : Setup) (shown : ℕ → Bool) (cells : ℕ → ℕ → Cell) (u w : ℕ) → Has (shown_teams s shown) u → Has (shown_teams s shown) w
    → ((beats (score_of_team s cells u) (score_of_team s cells w) ≡ true) ↔ (rank_of s shown cells u < rank_of s shown cells w))
    × (beats (score_of_team s cells u) (score_of_team s cells w) ≡ false → beats (score_of_team s cells w) (score_of_team s cells u) ≡ false → rank_of s shown cells u ≡ rank_of s shown cells w)
teams_follow s shown cells u w h k = (
  ((λ e. lower s shown cells u w h (is_less _ e)), (λ l. better s shown cells u w k l (team_cmp s cells u w) refl)),
  (λ e f. equal s shown cells u w (tied (team_cmp_total s cells) u w e f (team_cmp s cells u w) refl)),
)

abbrev Follow : Row → Row → Type 0
Follow r q = ((beats r.score q.score ≡ true) ↔ (r.rank < q.rank)) × (beats r.score q.score ≡ false → beats q.score r.score ≡ false → r.rank ≡ q.rank)

pub ranks_follow_the_scores : (s : Setup) (shown : ℕ → Bool) (cells : ℕ → ℕ → Cell) (r q : Row) → Has (board_rows s shown cells) r → Has (board_rows s shown cells) q
    → ((beats r.score q.score ≡ true) ↔ (r.rank < q.rank)) × (beats r.score q.score ≡ false → beats q.score r.score ≡ false → r.rank ≡ q.rank)
ranks_follow_the_scores s shown cells r q h k =
    let i = row_is s shown cells r h in
    let j = row_is s shown cells q k in
    let both : Follow (row_of s shown cells r.team) (row_of s shown cells q.team) = teams_follow s shown cells r.team q.team i.there j.there in
    subst (λ a. Follow a q) (sym i.is) (subst (λ b. Follow (row_of s shown cells r.team) b) (sym j.is) both)
