use Rattle.std.proofs.Common.{◌≡◌, ◌++◌, ℕ, List, drop}
use Rattle.std.specs.Option.{option_map}
use Rattle.contest_import.specs.Teams.{group_places}
use Rattle.contest_import.proofs.teams.group_places.Given as goal

abbrev pub invariant-loop-id : goal.invariant-loop-id
invariant-loop-id l = group_places l.settings l.ids ≡ option_map (λ (more : List ℕ). l.places ++ more) (group_places l.settings (drop l.id-index l.ids))
