use Rattle.std.proofs.Common.{◌≡◌, ◌++◌, List, drop, map}
use Rattle.std.specs.Option.{option_map}
use Rattle.serde_json.specs.View.{view}
use Rattle.contest_types.specs.Options.{all_some}
use Rattle.contest_comparison.proofs.listed.rows_of.Given as goal

abbrev pub invariant-loop-item : goal.invariant-loop-item
invariant-loop-item g l =
    all_some (map g.T.ListedRow.members (map view l.items))
    ≡ option_map (λ (more : List g.row.T.Denot). l.rows ++ more) (all_some (map g.T.ListedRow.members (map view (drop l.item-index l.items))))
