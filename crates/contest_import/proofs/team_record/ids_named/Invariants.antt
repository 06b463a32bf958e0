use Rattle.std.proofs.Common.{◌≡◌, ◌+◌, ◌++◌, ℕ, List, [], length, map}
use Rattle.std.specs.Option.{option_map, option_map_or}
use Rattle.contest_types.specs.Options.{all_some}
use Rattle.contest_types.specs.IdText.{id_of}
use Rattle.contest_types.specs.Words.{words}
use Rattle.contest_import.proofs.team_record.ids_named.Given as goal

abbrev pub invariant-loop-rest : goal.invariant-loop-rest
invariant-loop-rest l =
    all_some (map id_of (words l.fn.text))
    ≡ option_map (λ (more : List (List ℕ)). l.ids ++ more) (all_some (map id_of (option_map_or (λ rest. words rest.now) l.rest [])))

abbrev pub decreases-loop-rest : goal.decreases-loop-rest
decreases-loop-rest l = option_map_or (λ rest. length rest.now + 1) l.rest 0
