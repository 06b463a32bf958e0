-- An event as the reader of a feed has it. Words of private functions: nothing public is said with them.
use Rattle.std.specs.Option.{option_map}
use Rattle.serde_json.specs.View.{view}
use Rattle.contest_feed_reader.specs.Events.{FeedEvent}
use Rattle.contest_feed_reader.specs.declared.event.Event.{Event}

-- what it says
abbrev pub shown : Event → FeedEvent
shown e = record { kind = e.kind; deletes = e.deletes; id = option_map (λ s. s.now) e.id; body = view e.body.now }
