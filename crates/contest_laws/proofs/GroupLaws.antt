-- A group's board keeps the order of the whole board: both are in one order, which goes by scores and not by ranks.
use Rattle.std.proofs.Common.{nat_cmp, ◌+◌, ◌≡◌, ◌∙◌, ◌<◌, ℕ, Bool, true, false, List, [], ◌∷◌, length, map, filter, None, Some, inl, inr, refl, sym, ap, subst, arith, Ordering}
use Rattle.std.specs.Prelude.{◌↔◌, if◌then◌else◌}
use Rattle.std.specs.Cmp.{IsTotalOrder}
use Rattle.std.specs.Ordering.{is_lt, ordering_reverse, ordering_then}
use Rattle.std.specs.declared.cmp.Ordering.TheVariants.{Less, Equal, Greater}
use Rattle.std.proofs.lemmas.Bool.{false≢true}
use Rattle.std.proofs.lemmas.Cmp.{nat_cmp_total, nat_list_cmp_total, on_total, then_total, tied_itself}
use Rattle.std.proofs.lemmas.Bool.Decides.{nat_tests}
use Rattle.std.proofs.lemmas.Map.Lookups.{exact_unsigned}
use Rattle.contest_types.specs.Order.{Has, IsInOrder, by_each, by_text, place_in}
use Rattle.contest_types.specs.Setup.{IsValid, Setup}
use Rattle.contest_types.specs.TeamPlaces.{is_of_group, is_public, name_at, team_id_at}
use Rattle.contest_types.proofs.InOrderLemmas.{filter_has, has_filter, nothing_added, place_less}
use Rattle.contest_types.proofs.OrderLemmas.{before_each, same_order}
use Rattle.contest_types.proofs.PlaceLemmas.{and_left, and_right, both_true}
use Rattle.contest_types.proofs.Rising.{before_all, place_tied, rising, strict}
use Rattle.contest_types.proofs.SettingsTest.{is_settings}
use Rattle.contest_types.proofs.ValidParts.{parts}
use Rattle.contest_score.specs.BoardLaws.{teams_of}
use Rattle.contest_score.specs.Contest.{board_for, seen_cell}
use Rattle.contest_score.specs.Ranking.{board_rows, is_on_board, rank_of, row_cmp, row_of, score_cmp, score_of_team, shown_teams}
use Rattle.contest_score.specs.declared.cell.Cell.{Cell}
use Rattle.contest_score.proofs.BoardOrder.{row_cmp_total}
use Rattle.contest_score.proofs.BoardRows.{ranked_teams, shown_teams_stand}
use Rattle.contest_score.proofs.Ranks.{score_cmp_total}
use Rattle.contest_laws.specs.GroupBoards.{GroupBoardsKeepTheOrder}

-- ---- lists in one order

-- a test that holds of what stands in the list
kept_order : {X : Type 0} (before after : X → X → Bool) (xs : List X) → ((y z : X) → Has xs y → Has xs z → before y z ≡ true → after y z ≡ true) → IsInOrder before xs → IsInOrder after xs
kept_order before after [] h i = tt
kept_order before after (x ∷ xs) h i =
    (before_all after x xs (λ y k. h x y (inl refl) (inr k) (before_each before x xs y i.0 k)), kept_order before after xs (λ y z k l. h y z (inr k) (inr l)) i.1)

filtered_order : {X : Type 0} (before : X → X → Bool) (p : X → Bool) (xs : List X) → IsInOrder before xs → IsInOrder before (filter p xs)
filtered_order before p [] i = tt
filtered_order {X} before p (x ∷ xs) i = go (p x) (filtered_order before p xs i.1)
  where
    go : (b : Bool) → IsInOrder before (filter p xs) → IsInOrder before (if b then x ∷ filter p xs else filter p xs)
    go true rest = (before_all before x (filter p xs) (λ y k. before_each before x xs y i.0 (filter_has p xs y k).0), rest)
    go false rest = rest

-- ---- the order of teams by their scores

by_scores : Setup → (ℕ → ℕ → Cell) → ℕ → ℕ → Ordering
by_scores s cells u w = score_cmp (score_of_team s cells u) (score_of_team s cells w)

rest_cmp : Setup → ℕ → ℕ → Ordering
rest_cmp s = by_each (by_text (name_at s) ∷ by_text (team_id_at s) ∷ [])

team_cmp : Setup → (ℕ → ℕ → Cell) → ℕ → ℕ → Ordering
team_cmp s cells u w = ordering_then (by_scores s cells u w) (rest_cmp s u w)

team_cmp_total : (s : Setup) (cells : ℕ → ℕ → Cell) → IsTotalOrder (team_cmp s cells)
unfolding team_cmp by_scores rest_cmp
team_cmp_total s cells = then_total (on_total (score_of_team s cells) score_cmp_total) (then_total (on_total (name_at s) nat_list_cmp_total) (on_total (team_id_at s) nat_list_cmp_total))

less_nat : (m n : ℕ) → nat_cmp m n ≡ Less → m < n
less_nat m n h = grind (arith, nat_tests)

no_less : (m n : ℕ) (rest : Ordering) → n < m → is_lt (ordering_then (nat_cmp m n) rest) ≡ true → ⊥
no_less m n rest l = go (nat_cmp m n) refl
  where
    go : (o : Ordering) → nat_cmp m n ≡ o → is_lt (ordering_then o rest) ≡ true → ⊥
    go Less e h = omega (arith, l, less_nat m n e)
    go Equal e h = omega (arith, l, exact_unsigned m n e)
    go Greater e h = false≢true h

same_nat : (m n : ℕ) (rest : Ordering) → m ≡ n → is_lt (ordering_then (nat_cmp m n) rest) ≡ true → is_lt rest ≡ true
same_nat m n rest is h = (let tied : nat_cmp m n ≡ Equal = ap (nat_cmp m) (sym is) ∙ tied_itself nat_cmp_total m in ap (λ o. is_lt (ordering_then o rest)) (sym tied) ∙ h)

-- of two teams of a board the upper one has the better score, or the same and a smaller name or id
as_scores : (s : Setup) (shown : ℕ → Bool) (cells : ℕ → ℕ → Cell) (u w : ℕ) → Has (shown_teams s shown) w → is_lt (row_cmp s shown cells u w) ≡ true → is_lt (team_cmp s cells u w) ≡ true
unfolding team_cmp by_scores rest_cmp
as_scores s shown cells u w there above = go (by_scores s cells u w) refl
  where
    o : IsTotalOrder (by_scores s cells)
    o = on_total (score_of_team s cells) score_cmp_total

    go : (r : Ordering) → by_scores s cells u w ≡ r → is_lt (ordering_then r (rest_cmp s u w)) ≡ true
    go Less e = refl
    go Equal e = same_nat (rank_of s shown cells u) (rank_of s shown cells w) (rest_cmp s u w) (ap (λ n. 1 + n) (place_tied o (shown_teams s shown) u w e)) above
    go Greater e =
        let back : by_scores s cells w u ≡ Less = o.antisymm w u ∙ ap ordering_reverse e in
        let fewer : place_in (by_scores s cells) (shown_teams s shown) w < place_in (by_scores s cells) (shown_teams s shown) u = place_less o (shown_teams s shown) w u there back in
        absurd (no_less (rank_of s shown cells u) (rank_of s shown cells w) (rest_cmp s u w) (omega (arith, fewer)) above)

-- ---- the two boards

teams_are : (s : Setup) (shown : ℕ → Bool) (cells : ℕ → ℕ → Cell) (us : List ℕ) → teams_of (map (row_of s shown cells) us) ≡ us
teams_are s shown cells [] = refl
teams_are s shown cells (u ∷ us) = ap (λ ws. u ∷ ws) (teams_are s shown cells us)

teams_ordered : (s : Setup) (shown : ℕ → Bool) (cells : ℕ → ℕ → Cell) → IsInOrder (λ u w. is_lt (team_cmp s cells u w)) (teams_of (board_rows s shown cells))
teams_ordered s shown cells =
    let us = ranked_teams s shown cells in
    let stands : (u : ℕ) → Has us u → Has (shown_teams s shown) u = λ u h. nothing_added (row_cmp s shown cells) (shown_teams s shown) u h in
    subst (IsInOrder (λ u w. is_lt (team_cmp s cells u w))) (sym (teams_are s shown cells us))
    (kept_order (λ u w. is_lt (row_cmp s shown cells u w)) (λ u w. is_lt (team_cmp s cells u w)) us (λ u w h k e. as_scores s shown cells u w (stands w k) e)
    (rising (row_cmp_total s shown cells) (shown_teams s shown)))

pub group_boards_keep_the_order : GroupBoardsKeepTheOrder
group_boards_keep_the_order a now group x valid =
    let s = x.fixed.settings in
    let cells = seen_cell a now x in
    let v : IsValid s = is_settings x (parts x valid).settings in
    let part = teams_of (board_for a now (Some group) x) in
    let whole = teams_of (board_for a now None x) in
    let on_part : (u : ℕ) → Has part u ↔ ((u < length s.teams) × (is_on_board s (Some group) u ≡ true)) = λ u. shown_teams_stand s (is_on_board s (Some group)) cells v u in
    let on_whole : (u : ℕ) → Has whole u ↔ ((u < length s.teams) × (is_public s u ≡ true)) = λ u. shown_teams_stand s (is_public s) cells v u in
    let to : (u : ℕ) → Has part u → Has (filter (is_of_group s group) whole) u = λ u h.
    (let k = (on_part u).0 h in
    has_filter (is_of_group s group) whole u ((on_whole u).1 (k.0, and_left (is_public s u) (is_of_group s group u) k.1)) (and_right (is_public s u) (is_of_group s group u) k.1)) in
    let from : (u : ℕ) → Has (filter (is_of_group s group) whole) u → Has part u = λ u h.
    (let f = filter_has (is_of_group s group) whole u h in
    let k = (on_whole u).0 f.0 in
    (on_part u).1 (k.0, both_true (is_public s u) (is_of_group s group u) k.1 f.1)) in
    same_order (λ u w. is_lt (team_cmp s cells u w)) (strict (team_cmp_total s cells)) part (filter (is_of_group s group) whole) (teams_ordered s (is_on_board s (Some group)) cells)
    (filtered_order (λ u w. is_lt (team_cmp s cells u w)) (is_of_group s group) whole (teams_ordered s (is_public s) cells)) to from
