-- The event feed (Contest API 2023-06, event feed: an event a line, with the object that its endpoint serves; that each
-- object has one event, and in which order the collections come, is own).
use Rattle.std.specs.Prelude.{ℕ, ◌+◌, ◌++◌, List, [], ◌∷◌, Option, Some, None, codes}
use Rattle.std.specs.Fmt.{decimal}
use Rattle.serde_json.specs.Data.{Data, string, object, member, no_members}
use Rattle.serde_json.specs.Written.{compact_text}
use Rattle.contest_objects.specs.Items.{Item}
use Rattle.contest_objects.specs.Members.{text_or_null}

-- an event: its collection's name, the id of its object, which the contest and its state have none of, and the object
pub record FeedEvent : Type 0 where
  pub collection : List ℕ
  pub id : Option (List ℕ)
  pub object : Data

-- that of an object with an id
abbrev pub item_event : List ℕ → Item → FeedEvent
item_event collection i = record { collection = collection; id = Some i.id; object = i.object }

-- that of one without
abbrev pub whole_event : List ℕ → Data → FeedEvent
whole_event collection d = record { collection = collection; id = None; object = d }

-- an event as it is served; its token is its number
abbrev pub event_data : (number : ℕ) → FeedEvent → Data
event_data n e =
    object (member (codes "data") e.object (member (codes "id") (text_or_null e.id)
    (member (codes "token") (string (decimal n)) (member (codes "type") (string e.collection) no_members))))

-- its line
unfoldable pub event_line : (number : ℕ) → FeedEvent → List ℕ
event_line n e = compact_text (event_data n e) ++ codes "\n"

-- the lines of events that are numbered from a number on
abbrev pub lines_from : (number : ℕ) → List FeedEvent → List ℕ
lines_from n [] = []
lines_from n (e ∷ es) = event_line n e ++ lines_from (n + 1) es

-- a feed: its events, numbered from 1
abbrev pub feed_text : List FeedEvent → List ℕ
feed_text es = lines_from 1 es
