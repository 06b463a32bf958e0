use Rattle.std.proofs.Common.{◌∙◌, ap}
use Rattle.std.specs.Option.{option_map}
use Rattle.serde_json.specs.Written.{compact_text}
use Rattle.contest_objects.specs.Items.{found_in}
use Rattle.contest_objects.proofs.ListingLemmas.{each_served}
use Rattle.contest_objects.proofs.collection.get_whole.Goals as goal

pub returns : goal.returns
returns g c =
    c.in_ok-found.ensures
    ∙ ap (λ is. option_map compact_text (found_in is c.args.id.now)) (each_served (g.C.Collection.item c.args.collection.now) (g.C.Whole.whole c.args.collection.now) (g.met.C.Whole.all c.args.collection.now) c.args.rows.now)
