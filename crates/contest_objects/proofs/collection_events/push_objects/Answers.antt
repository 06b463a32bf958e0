use Rattle.std.proofs.Common.{◌∙◌, ◌++◌, ap, map}
use Rattle.std.specs.List.{filter_map}
use Rattle.std.specs.Option.{option_map, option_to_list}
use Rattle.std.proofs.lemmas.List.{take_all}
use Rattle.contest_objects.specs.CollectionObjects.{event_of}
use Rattle.contest_objects.specs.EventFeed.{item_event}
use Rattle.contest_objects.proofs.EventLemmas.{event_served}
use Rattle.contest_objects.proofs.ListingLemmas.{mapped_through, next_behind}
use Rattle.contest_objects.proofs.collection_events.push_objects.Goals as goal

pub loop-row-preserved : goal.loop-row-preserved
loop-row-preserved g c =
    let name = g.C.Collection.name in
    let item = g.C.Collection.item c.args.collection.now in
    let row = c.row-item.result in
    next_behind (λ r. option_map (item_event name) (item r.now)) c.args.rows.now c.loop-row.row-index row (map event_of c.args.objects.now.items) (map event_of c.loop-row.objects.items) (map event_of c.push_object.new.objects.items)
    c.loop-row-test.true c.loop-row.invariant
    (rw (← c.row-item.is) (c.in_ok-push_object.ensures ∙ ap (λ o. map event_of c.loop-row.objects.items ++ option_to_list o) (event_served name c.object.result (item row.now) c.object.ensures.item c.object.ensures.name)))

pub returns : goal.returns
returns g c =
    let name = g.C.Collection.name in
    let item = g.C.Collection.item c.args.collection.now in
    c.loop-row.invariant
    ∙ ap (λ es. map event_of c.args.objects.now.items ++ es)
    (ap (filter_map (λ r. option_map (item_event name) (item r.now))) (take_all c.loop-row.row-index c.args.rows.now c.loop-row-test.false) ∙ mapped_through (item_event name) item (λ r. r.now) c.args.rows.now)
