use Rattle.std.proofs.Common.{◌≡◌, ◌∙◌, map, refl, sym, ap, inr, rules, arith}
use Rattle.std.specs.List.{list_all}
use Rattle.contest_types.specs.Places.{place_of, are_different}
use Rattle.contest_types.specs.IdText.{is_id}
use Rattle.contest_types.specs.State.{changed_at}
use Rattle.contest_types.specs.declared.objects.Team.{Team}
use Rattle.contest_types.proofs.ChangeLemmas.{changed_by, map-changed, unchanged}
use Rattle.contest_types.proofs.id_list.set_team_name.Goals as goal

-- the rows with the name
changed : goal.returns-then-place-len
changed c =
    changed_by 0 c.args.place c.args.place (λ (t : Team). record t { name = c.args.name }) c.teams.inside.rows.items c.put_name.new.rows.items (omega arith) (search rules) c.put_name.ensures
    ∙ ap (changed_at 0 c.args.place (λ (t : Team). record t { name = c.args.name })) c.teams.view_is

pub returns-then-place-len : goal.returns-then-place-len
returns-then-place-len c = changed c

pub returns-else-place-len : goal.returns-else-place-len
returns-else-place-len c = unchanged 0 c.args.place (λ (t : Team). record t { name = c.args.name }) c.args.teams.now (inr (search rules))

pub invariant_of-teams : goal.invariant_of-teams
invariant_of-teams c =
    let ids : map (λ (t : Team). t.id) c.put_name.new.rows.items ≡ map (λ (t : Team). t.id) c.teams.inside.rows.items =
    ap (map (λ (t : Team). t.id)) (changed_by 0 c.args.place c.args.place (λ (t : Team). record t { name = c.args.name }) c.teams.inside.rows.items c.put_name.new.rows.items (omega arith) (search rules) c.put_name.ensures)
    ∙ map-changed (λ (t : Team). t.id) (λ (t : Team). record t { name = c.args.name }) (λ t. refl) 0 c.args.place c.teams.inside.rows.items in
    record {
      agree = λ bytes. c.teams.invariant.agree bytes ∙ ap (place_of bytes) (sym ids);
      different = ap are_different ids ∙ c.teams.invariant.different;
      spelled = ap (list_all is_id) ids ∙ c.teams.invariant.spelled;
    }
