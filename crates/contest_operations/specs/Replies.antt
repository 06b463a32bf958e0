-- What the desk answers (RFC 9110; RFC 6750; the bodies are own).
use Rattle.std.specs.Prelude.{◌≡◌, ◌⊎◌, ◌==◌, ℕ, false, List, codes}
use Rattle.serde_json.specs.Data.{Data, number, unsigned, string, object, member, no_members}
use Rattle.serde_json.specs.Written.{compact_text}
use Rattle.contest_types.specs.Refusals.{status_of, refusal_name}
use Rattle.contest_types.specs.declared.refusal.Refusal.{Refusal}
use Rattle.contest_types.specs.declared.refusal.Refusal.TheVariants as refusal
use Rattle.contest_operations.specs.declared.offer.AllowedMethods.{AllowedMethods}
use Rattle.contest_operations.specs.declared.reply.Reply.{Reply}
use Rattle.contest_operations.specs.declared.reply.ExtraField.{ExtraField}
use Rattle.contest_operations.specs.declared.reply.ExtraField.TheVariants.{Nothing, Allow, WwwAuthenticate}
use Rattle.contest_operations.specs.declared.reply.ContentType.TheVariants.{Json, JsonLines, Zip}

-- the object that a refusal's body is
abbrev pub refusal_data : Refusal → Data
refusal_data r = object (member (codes "code") (number (unsigned (status_of r))) (member (codes "message") (string (refusal_name r)) no_members))

-- its text
unfoldable pub refusal_text : Refusal → List ℕ
refusal_text r = compact_text (refusal_data r)

-- who has no known token is asked for one
abbrev pub refusal_field : Refusal → ExtraField
refusal_field refusal.UnknownToken = WwwAuthenticate
refusal_field _ = Nothing

abbrev pub refused : Refusal → Reply
refused r = record { status = status_of r; content = Json; extra = refusal_field r; body = refusal_text r }

-- a method that isn't offered is answered with those that are
abbrev pub refused_method : AllowedMethods → Reply
refused_method allowed = record (refused refusal.Method) { extra = Allow allowed }

abbrev pub answer_with : List ℕ → Reply
answer_with text = record { status = 200; content = Json; extra = Nothing; body = text }

-- a value is answered as its compact text
abbrev pub answer : Data → Reply
answer d = answer_with (compact_text d)

-- lines, each a value's compact text, are answered as they are
abbrev pub lines_answer : List ℕ → Reply
lines_answer text = record { status = 200; content = JsonLines; extra = Nothing; body = text }

-- a file is answered as its bytes
abbrev pub file_answer : List ℕ → Reply
file_answer bytes = record { status = 200; content = Zip; extra = Nothing; body = bytes }

-- a refusal that the store or want of memory is the cause of
abbrev pub IsStoreReply : Reply → Type 0
IsStoreReply reply = (reply ≡ refused refusal.StoreFault) ⊎ (reply ≡ refused refusal.Memory)

-- the status isn't that of such a refusal
abbrev pub IsOrdinary : Reply → Type 0
IsOrdinary reply = (reply.status == 503) ≡ false
