-- Each group stands once among the awards, and the winner of one that has any is told.
use Rattle.std.proofs.Common.{◌≡◌, ℕ, ◌<◌, Bool, true, List, ◌∷◌, ◌++◌, length, map, filter, refl, inr}
use Rattle.std.specs.Prelude.{◌↔◌, ◌&&◌, nat_le, nat_lt, codes}
use Rattle.std.specs.List.{list_all, range_with_len}
use Rattle.std.specs.Ordering.{is_lt}
use Rattle.std.proofs.lemmas.Map.Lookups.{exact_bytes}
use Rattle.std.proofs.lemmas.Bool.{le-leb}
use Rattle.contest_types.specs.Setup.{Setup, IsValid}
use Rattle.contest_types.specs.Order.{by_text, Has, IsInOrder}
use Rattle.contest_types.specs.declared.objects.Group.{Group}
use Rattle.contest_types.proofs.Different.{one_place}
use Rattle.contest_types.proofs.InOrderLemmas.{nothing_added, nothing_lost, has_back, has_map, has_filter, filter_has}
use Rattle.contest_types.proofs.Rising.{rising}
use Rattle.contest_score.specs.declared.row.Row.{Row}
use Rattle.contest_score.specs.declared.solve.Solve.{Solve}
use Rattle.contest_score.specs.Ranking.{problem_order}
use Rattle.contest_types.specs.SettingsNames.{group_id_at, group_name_at}
use Rattle.contest_score.specs.Awards.{Award, winners, winner, medals, first_to_solve, is_in_group, group_winner, group_order, awards_of}
use Rattle.contest_score.proofs.SameElements.{place_within}
use Rattle.contest_score.proofs.MedalTeams.{has_solved, award_has}
use Rattle.contest_score.proofs.GroupOrder.{group_cmp_total}
use Rattle.contest_score.proofs.LeastOf.{least_of, some_length, is_lt_zero, has_all}
use Rattle.contest_types.proofs.SeenWhole.{has_below}

group_there : (s : Setup) (g : ℕ) → Has (group_order s) g → g < length s.groups
group_there s g h = place_within (length s.groups) g (nothing_added (by_text (group_id_at s)) (range_with_len 0 (length s.groups)) g h)

group_stands : (s : Setup) → IsValid s → (g : ℕ) → g < length s.groups → Has (group_order s) g
group_stands s v g l =
    nothing_lost (group_cmp_total s) (range_with_len 0 (length s.groups)) g (has_below (length s.groups) g l)
    (λ q h e. one_place (λ (t : Group). t.id) s.groups v.groups q g (place_within (length s.groups) q h) l (exact_bytes _ _ e))

pub groups_stand_once : (s : Setup) → IsValid s → ((group : ℕ) → Has (group_order s) group ↔ (group < length s.groups)) × IsInOrder (λ g h. is_lt (by_text (group_id_at s) g h)) (group_order s)
groups_stand_once s v = ((λ g. (group_there s g, group_stands s v g)), rising (group_cmp_total s) (range_with_len 0 (length s.groups)))

-- the group's row of least rank has the award
given : (s : Setup) (rows : List Row) (group : ℕ) (r : Row) → Has (winners rows) r → is_in_group s group r ≡ true → 0 < length (group_winner s rows group).teams
given s rows group r h is =
    let of_group = filter (is_in_group s group) (winners rows) in
    let m = least_of (λ (q : Row). q.rank) of_group r (has_filter (is_in_group s group) (winners rows) r h is) in
    let f = filter_has (is_in_group s group) (winners rows) m.item m.there in
    let g = filter_has has_solved rows m.item f.0 in
    let test : Row → Bool = λ q. is_in_group s group q && list_all (λ (w : Row). nat_le q.rank w.rank) of_group in
    let leads : list_all (λ (w : Row). nat_le m.item.rank w.rank) of_group ≡ true = has_all (λ (w : Row). nat_le m.item.rank w.rank) of_group (λ w k. le-leb m.item.rank w.rank (m.least w k)) in
    let both : (b c : Bool) → b ≡ true → c ≡ true → (b && c) ≡ true = λ b c i j. rw (i, j) refl in
    let passes : test m.item ≡ true = both (is_in_group s group m.item) _ f.1 leads in
    some_length (group_winner s rows group).teams m.item.team
    (award_has (codes "group-winner-" ++ group_id_at s group) (codes "Winner of group " ++ group_name_at s group) test rows m.item g.0 g.1 passes)

pub solved_has_a_group_winner : (s : Setup) (rows : List Row) (solves : List Solve) (group : ℕ) (r : Row) → IsValid s → group < length s.groups
    → Has (winners rows) r → is_in_group s group r ≡ true → Has (awards_of s rows solves) (group_winner s rows group)
solved_has_a_group_winner s rows solves group r v l h is =
    let award = group_winner s rows group in
    let firsts = map (first_to_solve s rows solves) (problem_order s) in
    let groups = map (group_winner s rows) (group_order s) in
    let there : Has groups award = has_map (group_winner s rows) (group_order s) group (group_stands s v group l) in
    has_filter (λ (w : Award). nat_lt 0 (length w.teams)) (winner rows ∷ medals s rows ++ firsts ++ groups) award
    (inr (has_back (medals s rows) (firsts ++ groups) award (has_back firsts groups award there)))
    (is_lt_zero (length award.teams) (given s rows group r h is))
