use Rattle.std.proofs.Common.{◌≡◌, ◌++◌, ℕ, List, drop, map}
use Rattle.std.specs.Option.{option_map}
use Rattle.serde_json.specs.View.{view}
use Rattle.contest_types.specs.Options.{all_some}
use Rattle.contest_files.specs.IdArrays.{id_item}
use Rattle.contest_files.proofs.id_arrays.ids_of.Given as goal

abbrev pub invariant-loop-item : goal.invariant-loop-item
invariant-loop-item l =
    all_some (map id_item (map view l.items))
    ≡ option_map (λ (more : List (List ℕ)). l.ids ++ more) (all_some (map id_item (map view (drop l.item-index l.items))))
