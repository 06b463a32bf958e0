use Rattle.std.specs.Prelude.{slice_get}
use Rattle.std.specs.List.{filter_map}
use Rattle.std.proofs.Common.{◌∙◌, ap}
use Rattle.serde_json.specs.Written.{compact_text}
use Rattle.contest_objects.specs.Items.{array_of}
use Rattle.contest_objects.proofs.ListingLemmas.{each_served}
use Rattle.contest_objects.proofs.collection.list_at.Goals as goal

pub returns : goal.returns
returns g c =
    (rw (c.deref.ensures.value, c.in_ok-rows.ensures) at c.in_ok-text.ensures)
    ∙ ap (λ is. compact_text (array_of is)) (each_served (g.C.Collection.item c.args.collection.now) (g.C.Whole.whole c.args.collection.now) (g.met.C.Whole.all c.args.collection.now) (filter_map (slice_get c.args.rows.now) c.args.places.now))
