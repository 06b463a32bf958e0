-- The bytes of a reply (RFC 9112, sections 4 to 6; RFC 9110, sections 6.6.1, 8.3, 8.6, 10.2.1 and 15; RFC 6750, section 3).
use Rattle.std.specs.Prelude.{◌≡◌, ◌&&◌, ◌/◌, ◌++◌, ℕ, List, [], Bool, codes, decimal, length, nat_le, nat_lt, unwrap_or, if◌then◌else◌}
use Rattle.http.specs.StatusCode.{reason_phrase}
use Rattle.httpdate.specs.Date.{date_text, unix_secs}
use Rattle.httpdate.specs.declared.date.HttpDate.{HttpDate}
use Rattle.contest_operations.specs.Offers.{methods_text}
use Rattle.contest_operations.specs.declared.reply.ContentType.{ContentType}
use Rattle.contest_operations.specs.declared.reply.ContentType.TheVariants.{Json, JsonLines, Zip}
use Rattle.contest_operations.specs.declared.reply.ExtraField.{ExtraField}
use Rattle.contest_operations.specs.declared.reply.ExtraField.TheVariants.{Allow, Nothing, WwwAuthenticate}
use Rattle.contest_operations.specs.declared.reply.Reply.{Reply}

-- the phrase of a status, as the crate http names it; a number that is no status has none
abbrev pub phrase_of : ℕ → List ℕ
phrase_of status = if nat_le 100 status && nat_lt status 1000 then unwrap_or (reason_phrase status) [] else []

-- a status and its phrase
abbrev pub status_text : ℕ → List ℕ
status_text status = decimal status ++ codes " " ++ phrase_of status

-- the line of a field that only some replies have, after the end of the line before
abbrev pub extra_line : ExtraField → List ℕ
extra_line Nothing = []
extra_line (Allow methods) = codes "\r\nAllow: " ++ methods_text methods
extra_line WwwAuthenticate = codes "\r\nWWW-Authenticate: Bearer realm=\"desk\""

abbrev pub type_text : ContentType → List ℕ
type_text Json = codes "application/json"
type_text JsonLines = codes "application/x-ndjson"
type_text Zip = codes "application/zip"

-- the lines of a reply's head
unfoldable pub head_lines : (status date extra kind size : List ℕ) → List ℕ
head_lines status date extra kind size =
    codes "HTTP/1.1 " ++ status
    ++ codes "\r\nDate: " ++ date
    ++ extra
    ++ codes "\r\nContent-Type: " ++ kind
    ++ codes "\r\nContent-Length: " ++ size
    ++ codes "\r\nConnection: close\r\n\r\n"

-- the reply's head, with the text of its date
abbrev pub head_text : (date : List ℕ) → Reply → List ℕ
head_text date r = head_lines (status_text r.status) date (extra_line r.extra) (type_text r.content) (decimal (length r.body))

-- and its body, unless the head alone is asked for
abbrev pub spelled : (date : List ℕ) → Reply → (head_only : Bool) → List ℕ
spelled date r head_only = head_text date r ++ (if head_only then [] else r.body)

-- the bytes of a reply at a moment in milliseconds since 1970; its date has whole seconds
pub record IsSpelling (now : ℕ) (r : Reply) (head_only : Bool) (text : List ℕ) : Type 0 where
  pub date : HttpDate
  pub seconds : unix_secs date ≡ now / 1000
  pub spelling : text ≡ spelled (date_text date) r head_only
