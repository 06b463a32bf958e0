-- What the head of a request asks for: the first fault of its framing, or the request but for its body (RFC 9112,
-- sections 3.2, 6.1 and 6.3; RFC 9110, section 10.1.1; the order is own).
use Rattle.std.specs.Prelude.{ℕ, ◌&&◌, ◌==◌, List, [], ◌∷◌, Bool, true, false, not, nat_lt, nat_le, codes, length, Option, Some, None, Result, Ok, Err, if◌then◌else◌, map}
use Rattle.std.specs.Str.{bytes_eq}
use Rattle.std.specs.Str.Parse.{digits_value}
use Rattle.httparse.specs.Grammar.{RequestHead}
use Rattle.httparse.specs.Spans.{name_and_value}
use Rattle.contest_types.specs.RelTimeRead.{are_digits}
use Rattle.contest_types.specs.declared.limits.TheConstants.{REQUEST_BODY}
use Rattle.contest_types.specs.declared.refusal.Refusal.{Refusal}
use Rattle.contest_types.specs.declared.refusal.Refusal.TheVariants.{BodyTooLarge, Encoding, Malformed}
use Rattle.contest_requests.specs.declared.request.Method.{Method}
use Rattle.contest_requests.specs.declared.request.Method.TheVariants as method
use Rattle.contest_http.specs.Fields.{FieldText, has_value, values}
use Rattle.contest_http.specs.Targets.{path_of}
use Rattle.contest_http.specs.Credentials.{credential_of, key_of}
use Rattle.contest_http.specs.declared.plan.Expected.{Expected}
use Rattle.contest_http.specs.declared.plan.Plan.{Plan}
use Rattle.contest_http.specs.declared.plan.Plan.TheVariants.{Expect, Refuse}

-- the methods that the desk tells apart; their names have a case
abbrev pub method_of : List ℕ → Method
method_of name =
    if bytes_eq name (codes "GET") then method.Get else (
    if bytes_eq name (codes "HEAD") then method.Head else (
    if bytes_eq name (codes "POST") then method.Post else (
    if bytes_eq name (codes "PATCH") then method.Patch else method.Other)))

-- only the head of the reply is asked for
abbrev pub is_head : Method → Bool
is_head method.Head = true
is_head _ = false

-- a body of the length that the values of `Content-Length` give, within its limit
abbrev pub body_length : List (List ℕ) → Result ℕ Refusal
body_length [] = Ok 0
body_length (v ∷ []) =
    if are_digits v then (if nat_le (digits_value 10 v) REQUEST_BODY then Ok (digits_value 10 v) else Err BodyTooLarge) else Err Malformed
body_length (v ∷ w ∷ rest) = Err Malformed

-- HTTP/1.1 wants the host once
abbrev pub lacks_host : (minor : ℕ) → List FieldText → Bool
lacks_host minor fields = (minor == 1) && not (length (values (codes "host") fields) == 1)

-- an HTTP/1.1 client that waits with its body is told to go on
abbrev pub is_interim_due : (minor size : ℕ) → List FieldText → Bool
is_interim_due minor size fields = (minor == 1) && nat_lt 0 size && has_value (codes "expect") (codes "100-continue") fields

-- what is expected after the head
abbrev pub expected_of : Method → (path : List ℕ) → (minor size : ℕ) → List FieldText → Expected
expected_of m path minor size fields = record {
  credential = credential_of (values (codes "authorization") fields);
  method = m;
  path = path;
  key = key_of (values (codes "idempotency-key") fields);
  size = size;
  is_due = is_interim_due minor size fields;
}

-- by the path, once its length is known
abbrev pub plan_at : Method → (minor size : ℕ) → List FieldText → Option (List ℕ) → Plan
plan_at m minor size fields None = Refuse Malformed (is_head m)
plan_at m minor size fields (Some path) = Expect (expected_of m path minor size fields)

-- by the length, once its host is right
abbrev pub plan_sized : Method → (target : List ℕ) → (minor : ℕ) → List FieldText → Result ℕ Refusal → Plan
plan_sized m target minor fields (Err refusal) = Refuse refusal (is_head m)
plan_sized m target minor fields (Ok size) = plan_at m minor size fields (path_of target)

-- a transfer encoding is refused first, then a host, then a length, then a target
abbrev pub plan_of : Method → (target : List ℕ) → (minor : ℕ) → List FieldText → Plan
plan_of m target minor fields =
    if nat_lt 0 (length (values (codes "transfer-encoding") fields)) then Refuse Encoding (is_head m) else (
    if lacks_host minor fields then Refuse Malformed (is_head m) else
    plan_sized m target minor fields (body_length (values (codes "content-length") fields)))

-- what a head that was read asks for
abbrev pub head_plan : RequestHead → Plan
head_plan h = plan_of (method_of h.method) h.target h.minor (map name_and_value h.fields)
