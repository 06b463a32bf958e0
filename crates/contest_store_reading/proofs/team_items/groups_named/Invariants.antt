use Rattle.std.proofs.Common.{◌≡◌, ◌+◌, ◌++◌, ℕ, List, [], length, map}
use Rattle.std.specs.Option.{option_map, option_map_or}
use Rattle.contest_types.specs.Places.{place_of}
use Rattle.contest_types.specs.declared.objects.Group.{Group}
use Rattle.contest_store_reading.specs.Items.{groups_named}
use Rattle.contest_types.specs.Words.{words}
use Rattle.contest_store_rows.specs.Lists.{each_some}
use Rattle.contest_store_reading.proofs.team_items.groups_named.Given as goal

abbrev pub invariant-loop-rest : goal.invariant-loop-rest
invariant-loop-rest l =
    groups_named l.settings l.fn.text
    ≡ option_map (λ (more : List ℕ). l.groups ++ more) (each_some (map (λ id. place_of id (map (λ (g : Group). g.id) l.settings.groups)) (option_map_or (λ rest. words rest.now) l.rest [])))

abbrev pub decreases-loop-rest : goal.decreases-loop-rest
decreases-loop-rest l = option_map_or (λ rest. length rest.now + 1) l.rest 0
