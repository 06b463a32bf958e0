-- The least rank of a group, row by row.
use Rattle.std.proofs.Common.{◌≡◌, ℕ, ◌<◌, Bool, ◌&&◌, List, ◌++◌, length, get_or, filter, Option, Some, sym, ap, ◌∙◌}
use Rattle.std.specs.Prelude.{codes, nat_le, slice_get}
use Rattle.std.specs.List.{list_all}
use Rattle.std.proofs.Math.Path.{fun_ext}
use Rattle.std.proofs.lemmas.Option.{slice_get-get_or}
use Rattle.contest_types.specs.Setup.{Setup}
use Rattle.contest_score.specs.declared.row.Row.{Row}
use Rattle.contest_types.specs.declared.objects.Group.{Group}
use Rattle.contest_score.specs.Awards.{award_to, group_winner, is_in_group, winners}
use Rattle.contest_score.specs.AwardSteps.{is_within}

-- the least rank of the rows so far
abbrev pub Least : (Row → Bool) → List Row → Option ℕ → Type 0
Least test rows least = (rank : ℕ) → is_within least rank ≡ list_all (λ (w : Row). nat_le rank w.rank) (filter test (winners rows))

-- the test of the code is that of the definition
leads_same : (s : Setup) (rows : List Row) (group : ℕ) (least : Option ℕ) (id citation : List ℕ) → Least (is_in_group s group) rows least → award_to id citation (λ r. is_in_group s group r && is_within least r.rank) rows ≡ award_to id citation (λ r. is_in_group s group r && list_all (λ (w : Row). nat_le r.rank w.rank) (filter (is_in_group s group) (winners rows))) rows
leads_same s rows group least id citation h = ap (λ test. award_to id citation test rows) (fun_ext (λ r. ap (λ b. is_in_group s group r && b) (h r.rank)))

-- the award of the group at a place
pub group_award : (s : Setup) (rows : List Row) (place : ℕ) (least : Option ℕ) (g : Group) (id citation : List ℕ) → place < length s.groups → g ≡ get_or s.groups place g → id ≡ codes "group-winner-" ++ g.id → citation ≡ codes "Winner of group " ++ g.name → Least (is_in_group s place) rows least
    → award_to id citation (λ r. is_in_group s place r && is_within least r.rank) rows ≡ group_winner s rows place
group_award s rows place least g id citation l e is_id is_citation h =
    let there : slice_get s.groups place ≡ Some g = slice_get-get_or s.groups place g l ∙ ap Some (sym e) in
    rw (is_id, is_citation, there) (leads_same s rows place least (codes "group-winner-" ++ g.id) (codes "Winner of group " ++ g.name) h)
