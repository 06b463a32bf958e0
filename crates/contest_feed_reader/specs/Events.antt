-- An event's own form, whatever its type is (Contest API 2023-06 and 2022-07, notification format; 2020-03,
-- event feed, where an event has an id of its own and `op`). A member that isn't named here is ignored.
use Rattle.std.specs.Prelude.{◌||◌, Bool, true, false, Option, Some, None, if◌then◌else◌, codes, is_some}
use Rattle.std.specs.Option.{option_and_then, option_map}
use Rattle.std.specs.Str.{bytes_eq}
use Rattle.serde_json.specs.Data.{Data}
use Rattle.serde_json.specs.Find.{as_array, as_null, as_object, as_str, get}
use Rattle.contest_files.specs.FieldTexts.{Text}
use Rattle.contest_files.specs.JsonMembers.{data_of, optional, present_in, text_in}
use Rattle.contest_feed_reader.specs.declared.event.EventKind.{EventKind}
use Rattle.contest_feed_reader.specs.declared.event.EventKind.TheVariants.{Contest, JudgementTypes, Problems, Groups, Teams, Submissions, Judgements}

-- an event: its type, if that is used; whether it takes away; the id that it names, and its data
pub record FeedEvent : Type 0 where
  pub kind : Option EventKind
  pub deletes : Bool
  pub id : Option Text
  pub body : Data

-- the types that are used; in 2020-03 the contest's is `contests`
abbrev pub kind_of : Text → Option EventKind
kind_of type =
    if bytes_eq type (codes "contest") || bytes_eq type (codes "contests") then Some Contest
    else (if bytes_eq type (codes "judgement-types") then Some JudgementTypes
    else (if bytes_eq type (codes "problems") then Some Problems
    else (if bytes_eq type (codes "groups") then Some Groups
    else (if bytes_eq type (codes "teams") then Some Teams
    else (if bytes_eq type (codes "submissions") then Some Submissions
    else (if bytes_eq type (codes "judgements") then Some Judgements else None))))))

-- whether an `op` takes away
abbrev pub deletes_of : Text → Option Bool
deletes_of op =
    if bytes_eq op (codes "delete") then Some true
    else (if bytes_eq op (codes "create") || bytes_eq op (codes "update") then Some false else None)

-- an event without `op` doesn't
abbrev pub deletes_by : Option Data → Option Bool
deletes_by None = Some false
deletes_by (Some op) = option_and_then deletes_of (as_str op)

-- a text, null or absent
abbrev pub named_id : Data → Option (Option Text)
named_id d = optional (λ v. option_map Some (as_str v)) (present_in (codes "id") d)

-- an object, an array or null
abbrev pub is_body : Data → Bool
is_body d = is_some (as_object d) || is_some (as_array d) || is_some (as_null d)

abbrev pub body_in : Data → Option Data
body_in d = option_and_then (λ v. if is_body v then Some v else None) (get (codes "data") d)

-- the event that an object says; null takes away, as `delete` does
abbrev pub event_in : Data → Option FeedEvent
event_in d =
    option_and_then (λ type. option_and_then (λ deletes. option_and_then (λ id. option_map
    (λ body. record { kind = kind_of type; deletes = deletes || is_some (as_null body); id = id; body = body })
    (body_in d)) (named_id d)) (deletes_by (get (codes "op") d))) (text_in (codes "type") d)

-- the event of a line's text
abbrev pub event_of : Text → Option FeedEvent
event_of text = option_and_then event_in (data_of text)
