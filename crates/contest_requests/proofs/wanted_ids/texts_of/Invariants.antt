use Rattle.std.proofs.Common.{◌≡◌, ◌++◌, ℕ, List, drop, map}
use Rattle.std.specs.Option.{option_map}
use Rattle.serde_json.specs.Find.{as_str}
use Rattle.serde_json.specs.View.{view}
use Rattle.contest_types.specs.Options.{all_some}
use Rattle.contest_requests.proofs.wanted_ids.texts_of.Given as goal

abbrev pub invariant-loop-item : goal.invariant-loop-item
invariant-loop-item l =
    all_some (map as_str (map view l.items))
    ≡ option_map (λ (more : List (List ℕ)). l.texts ++ more) (all_some (map as_str (map view (drop l.item-index l.items))))
