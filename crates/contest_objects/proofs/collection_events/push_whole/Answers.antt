use Rattle.std.proofs.Common.{◌∙◌, ◌++◌, ap, map}
use Rattle.std.proofs.lemmas.Result.{on_ok_weaker}
use Rattle.contest_objects.specs.CollectionObjects.{event_of}
use Rattle.contest_objects.specs.EventFeed.{item_event}
use Rattle.contest_objects.proofs.ListingLemmas.{each_served}
use Rattle.contest_objects.proofs.collection_events.push_whole.Goals as goal

pub returns : goal.returns
returns g c =
    on_ok_weaker c.push_objects.result
    (λ e. (rw (c.deref.ensures.value, c.in_ok-rows.ensures) at e)
    ∙ ap (λ is. map event_of c.args.objects.now.items ++ map (item_event g.C.Collection.name) is) (each_served (g.C.Collection.item c.args.collection.now) (g.C.Whole.whole c.args.collection.now) (g.met.C.Whole.all c.args.collection.now) c.args.rows.now))
    c.push_objects.ensures
