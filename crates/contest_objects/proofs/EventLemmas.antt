-- The events of objects.
use Rattle.std.proofs.Common.{◌≡◌, ℕ, List, Option, Some, None, ap, ◌∙◌}
use Rattle.std.specs.Prelude.{IfSome}
use Rattle.std.specs.Option.{option_map}
use Rattle.contest_objects.specs.CollectionObjects.{collection_of, event_of, item_of}
use Rattle.contest_objects.specs.EventFeed.{item_event}
use Rattle.contest_objects.specs.Items.{Item}
use Rattle.contest_objects.specs.declared.collection_object.CollectionObject.{CollectionObject}

-- the event of an object of this collection is that of what is served
pub event_served : (name : List ℕ) (o : Option CollectionObject) (i : Option Item) → option_map item_of o ≡ i → IfSome o (λ c. collection_of c ≡ name) → option_map event_of o ≡ option_map (item_event name) i
event_served name None i is named = ap (option_map (item_event name)) is
event_served name (Some c) i is named = ap (λ n. Some (item_event n (item_of c))) named ∙ ap (option_map (item_event name)) is
