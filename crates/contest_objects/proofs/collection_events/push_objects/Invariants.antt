use Rattle.std.proofs.Common.{◌≡◌, ◌++◌, map, take}
use Rattle.std.specs.List.{filter_map}
use Rattle.std.specs.Option.{option_map}
use Rattle.contest_objects.specs.CollectionObjects.{event_of}
use Rattle.contest_objects.specs.EventFeed.{item_event}
use Rattle.contest_objects.proofs.collection_events.push_objects.Given as goal

abbrev pub invariant-loop-row : goal.invariant-loop-row
invariant-loop-row g l =
    map event_of l.objects.items ≡ map event_of l.fn.objects.items ++ filter_map (λ r. option_map (item_event g.C.Collection.name) (g.C.Collection.item l.collection r.now)) (take l.row-index l.rows)
