-- What the events of a feed come to, read one after another.
use Rattle.std.specs.Prelude.{◌≡◌, ◌⊎◌, ◌+◌, ℕ, true, false, List, [], ◌∷◌, Option, IfSome, Result, Ok, Err, is_some}
use Rattle.std.specs.Str.{IsUtf8}
use Rattle.json.proofs.Printed.Utf8.{are_ascii}
use Rattle.serde_json.specs.Data.{Data, string}
use Rattle.serde_json.specs.Find.{as_object, get}
use Rattle.std.specs.Prelude.{codes, Some}
use Rattle.contest_types.specs.IdText.{IsId}
use Rattle.contest_types.specs.declared.refusal.Refusal.{Refusal}
use Rattle.contest_types.specs.declared.refusal.Refusal.TheVariants.{BodyTooLarge}
use Rattle.contest_objects.specs.EventFeed.{FeedEvent}
use Rattle.contest_objects.specs.Items.{Item}
use Rattle.contest_feed_reader.specs.Events as heard
use Rattle.contest_feed_reader.specs.Events.{kind_of}
use Rattle.contest_feed_reader.specs.Tables.{after_kind, or_fault_at}
use Rattle.contest_feed_reader.specs.FeedTypes.{RowRead, TablesRead}
use Rattle.contest_round_trip.proofs.PlainObjects.{IsPlain}

-- an event as its line is read
abbrev pub heard_event : FeedEvent → heard.FeedEvent
heard_event e = record { kind = kind_of e.collection; deletes = false; id = e.id; body = e.object }

-- the tables after events that are numbered from a number on
abbrev pub after_events : TablesRead → (number : ℕ) → List FeedEvent → Result TablesRead Refusal
after_events t n [] = Ok t
after_events t n (e ∷ es) = or_fault_at (λ u. after_events u (n + 1) es) n (after_kind t n (heard_event e) (kind_of e.collection))

-- an event whose line is read back
pub record IsRead (e : FeedEvent) : Type 0 where
  pub id : IfSome e.id IsUtf8
  pub collection : are_ascii e.collection ≡ true
  pub plain : IsPlain 3 e.object
  pub object : is_some (as_object e.object) ≡ true

-- a reader comes to this, or refuses what is too large
abbrev pub ComesTo : {A : Type 0} → Result A Refusal → Result A Refusal → Type 0
ComesTo found wanted = (found ≡ Err BodyTooLarge) ⊎ (found ≡ wanted)

-- an object that is served, and what is read of it
pub record Made (A : Type 0) : Type 0 where
  pub item : Item
  pub object : A

-- its id is an id, stands in it, and its members are read as that
pub record IsMade {A : Type 0} (members : Data → Option A) (m : Made A) : Type 0 where
  pub id : IsId m.item.id
  pub own : get (codes "id") m.item.object ≡ Some (string m.item.id)
  pub body : is_some (as_object m.item.object) ≡ true
  pub read : members m.item.object ≡ Some m.object

-- their rows, of lines that are numbered from a number on
abbrev pub rows_from : {A : Type 0} → (number : ℕ) → List (Made A) → List (RowRead A)
rows_from n [] = []
rows_from n (m ∷ ms) = record { id = m.item.id; line = n; object = m.object } ∷ rows_from (n + 1) ms
