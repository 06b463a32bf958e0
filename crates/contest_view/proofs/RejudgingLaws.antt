-- Who isn't of the jury reads no rejudging.
use Rattle.std.proofs.Common.{[], map, ap, None}
use Rattle.std.specs.Prelude.{if◌then◌else◌}
use Rattle.std.specs.List.{enumerate_from}
use Rattle.std.specs.Option.{option_map}
use Rattle.serde_json.specs.Data.{array}
use Rattle.serde_json.specs.View.{items_of}
use Rattle.contest_view.specs.Laws.{OnlyTheJuryReadsRejudgings}
use Rattle.contest_view.specs.Rejudgings.{named_rejudging, numbered_data}
use Rattle.contest_types.proofs.SightLemmas.{not_jury}

pub only_the_jury : OnlyTheJuryReadsRejudgings
only_the_jury a x other =
    let no = not_jury a other in (
      ap (λ b. array (items_of (if b then map (numbered_data x.fixed.settings) (enumerate_from 1 x.rejudgings) else []))) no,
      λ id. ap (λ b. if b then option_map (numbered_data x.fixed.settings) (named_rejudging id x.rejudgings) else None) no,
    )
