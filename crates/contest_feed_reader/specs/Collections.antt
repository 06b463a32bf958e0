-- A collection of a feed: its objects in order, and what an event does to them (Contest API 2023-06,
-- notification format; in which order objects stand is own).
use Rattle.std.specs.Prelude.{ℕ, not, List, [], ◌∷◌, Option, Some, None, Result, Ok, Err, if◌then◌else◌, codes, is_some, filter, fold, map}
use Rattle.std.specs.Option.{option_and_then, option_map}
use Rattle.std.specs.Str.{bytes_eq}
use Rattle.serde_json.specs.Data.{Data}
use Rattle.serde_json.specs.Find.{as_array, as_str}
use Rattle.contest_types.specs.IdText.{id_of}
use Rattle.contest_types.specs.Options.{all_some}
use Rattle.contest_types.specs.declared.refusal.Cause.{Cause}
use Rattle.contest_types.specs.declared.refusal.Cause.TheVariants.{Malformed}
use Rattle.contest_files.specs.FieldTexts.{Text}
use Rattle.contest_files.specs.JsonMembers.{list_of, present_in, text_in}
use Rattle.contest_feed_reader.specs.Events.{FeedEvent}
use Rattle.contest_feed_reader.specs.declared.row.Row.{Row}

-- the row takes the place of the one with its id, or stands behind all
abbrev pub put : {A : Type 0} → List (Row A) → Row A → List (Row A)
put [] row = row ∷ []
put (other ∷ rows) row = if bytes_eq other.id row.id then row ∷ rows else other ∷ put rows row

-- the row with this id is gone
abbrev pub without : {A : Type 0} → Text → List (Row A) → List (Row A)
without id rows = filter (λ row. not (bytes_eq row.id id)) rows

-- an object with its id
pub record Named (A : Type 0) : Type 0 where
  pub id : Text
  pub object : A

-- what an event does to a collection: all of it is taken away, or one object; it is these objects alone;
-- or one is put
pub data Change (A : Type 0) : Type 0 where
  TakeAll : Change A
  Take : Text → Change A
  Anew : List (Named A) → Change A
  Put : Named A → Change A

-- the row of an object that the event of a line names
abbrev pub row_at : {A : Type 0} → (line : ℕ) → Named A → Row A
row_at line n = record { id = n.id; line = line; object = n.object }

-- the rows after a change by the event of a line
abbrev pub changed : {A : Type 0} → (line : ℕ) → List (Row A) → Change A → List (Row A)
changed line rows TakeAll = []
changed line rows (Take id) = without id rows
changed line rows (Anew objects) = fold put [] (map (row_at line) objects)
changed line rows (Put object) = put rows (row_at line object)

-- the same; where no change is said the event is off its form
abbrev pub rows_after : {A : Type 0} → (line : ℕ) → List (Row A) → Option (Change A) → Result (List (Row A)) Cause
rows_after line rows None = Err Malformed
rows_after line rows (Some change) = Ok (changed line rows change)

-- what names an object: its own id, if there is one, else the event's
abbrev pub name_by : (own : Option Data) → (other : Option Text) → Option (Option Text)
name_by (Some own) other = option_map Some (as_str own)
name_by None other = Some other

abbrev pub name_of : FeedEvent → Option (Option Text)
name_of e = name_by (present_in (codes "id") e.body) e.id

-- an event takes away the object that it names, or all if it names none
abbrev pub taken : {A : Type 0} → Option Text → Option (Change A)
taken None = Some TakeAll
taken (Some name) = option_map Take (id_of name)

abbrev pub taken_by : {A : Type 0} → FeedEvent → Option (Change A)
taken_by e = if is_some (as_array e.body) then None else option_and_then taken (name_of e)

-- the object that has this name, if that is an id and the members are on their form
abbrev pub named : {A : Type 0} → (Data → Option A) → (name : Text) → Data → Option (Named A)
named members name d = option_and_then (λ id. option_map (λ object. record { id = id; object = object }) (members d)) (id_of name)

-- an item of an array is named by its own id
abbrev pub item_in : {A : Type 0} → (Data → Option A) → Data → Option (Named A)
item_in members d = option_and_then (λ name. named members name d) (text_in (codes "id") d)

-- an array comes under no id
abbrev pub anew_by : {A : Type 0} → (Data → Option A) → (id : Option Text) → List Data → Option (Change A)
anew_by members None items = option_map Anew (all_some (map (item_in members) items))
anew_by members (Some id) items = None

-- an object has a name
abbrev pub put_by : {A : Type 0} → (Data → Option A) → FeedEvent → Option (Change A)
put_by members e = option_map Put (option_and_then (λ found. option_and_then (λ name. named members name e.body) found) (name_of e))

abbrev pub change_by : {A : Type 0} → (Data → Option A) → FeedEvent → Option (List Data) → Option (Change A)
change_by members e None = put_by members e
change_by members e (Some items) = anew_by members e.id items

-- what an event does to the collection of its type, whose objects have these members
abbrev pub change_in : {A : Type 0} → (Data → Option A) → FeedEvent → Option (Change A)
change_in members e = if e.deletes then taken_by e else change_by members e (option_map list_of (as_array e.body))
