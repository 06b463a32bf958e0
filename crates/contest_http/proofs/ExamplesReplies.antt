-- Worked examples: the texts of a reply, and a request with the bytes that follow its head.
use Rattle.std.proofs.Common.{◌≡◌, ℕ, true, false, List, [], refl}
use Rattle.std.specs.Prelude.{codes, ◌++◌}
use Rattle.std.specs.Fmt.{digits}
use Rattle.contest_types.specs.declared.refusal.Refusal.TheVariants.{BodyTooLarge, Malformed}
use Rattle.contest_operations.specs.declared.reply.ContentType.TheVariants.{Json}
use Rattle.contest_operations.specs.declared.reply.ExtraField.TheVariants.{Allow, Nothing, WwwAuthenticate}
use Rattle.contest_operations.specs.declared.reply.Reply.{Reply}
use Rattle.contest_requests.specs.declared.request.Credential.TheVariants as credential
use Rattle.contest_requests.specs.declared.request.KeyField.TheVariants as key
use Rattle.contest_requests.specs.declared.request.Method.TheVariants as method
use Rattle.contest_http.specs.Frames.{framed_by}
use Rattle.contest_http.specs.Spelling.{extra_line, head_lines, spelled, status_text}
use Rattle.contest_http.specs.declared.framed.Framed.TheVariants.{Asked, Refused}
use Rattle.contest_http.specs.declared.plan.Expected.{Expected}
use Rattle.contest_http.specs.declared.plan.Plan.TheVariants.{Expect, Refuse}

found : status_text 200 ≡ codes "200 OK"
unfolding digits
found = refl

too_large : status_text 413 ≡ codes "413 Payload Too Large"
unfolding digits
too_large = refl

head_too_large : status_text 431 ≡ codes "431 Request Header Fields Too Large"
unfolding digits
head_too_large = refl

unavailable : status_text 503 ≡ codes "503 Service Unavailable"
unfolding digits
unavailable = refl

nothing_more : extra_line Nothing ≡ []
nothing_more = refl

allowed : extra_line (Allow (record { get = true; post = true; patch = false })) ≡ codes "\r\nAllow: GET, HEAD, POST"
allowed = refl

realm : extra_line WwwAuthenticate ≡ codes "\r\nWWW-Authenticate: Bearer realm=\"desk\""
realm = refl

-- a whole reply, and its head alone
abbrev date : List ℕ
date = codes "Sat, 02 Mar 2024 09:05:00 GMT"

abbrev not_found : Reply
not_found = record { status = 404; content = Json; extra = Nothing; body = codes "{\"code\":404,\"message\":\"NotFound\"}" }

abbrev lines : List ℕ
lines =
    codes "HTTP/1.1 404 Not Found\r\nDate: Sat, 02 Mar 2024 09:05:00 GMT\r\nContent-Type: application/json\r\n"
    ++ codes "Content-Length: 33\r\nConnection: close\r\n\r\n"

whole : spelled date not_found false ≡ lines ++ codes "{\"code\":404,\"message\":\"NotFound\"}"
unfolding head_lines digits
whole = refl

head_alone : spelled date not_found true ≡ lines
unfolding head_lines digits
head_alone = refl

-- a field that only some replies have stands after the date
abbrev unknown_token : Reply
unknown_token = record { status = 401; content = Json; extra = WwwAuthenticate; body = codes "{\"code\":401,\"message\":\"UnknownToken\"}" }

with_realm : spelled date unknown_token true
    ≡ codes "HTTP/1.1 401 Unauthorized\r\nDate: Sat, 02 Mar 2024 09:05:00 GMT\r\nWWW-Authenticate: Bearer realm=\"desk\"\r\n"
    ++ codes "Content-Type: application/json\r\nContent-Length: 37\r\nConnection: close\r\n\r\n"
unfolding head_lines digits
with_realm = refl

-- a request of four bytes of body
abbrev expected : Expected
expected = record { credential = credential.Absent; method = method.Post; path = codes "/a"; key = key.Absent; size = 4; is_due = true }

-- takes its body, and what follows it stays
body_taken : framed_by (Expect expected) 100 (codes "bodyGET /") ≡ record {
  framed = Asked credential.Absent (record { method = method.Post; path = codes "/a"; key = key.Absent; body = codes "body" }) false;
  front = 104;
  is_due = true;
}
body_taken = refl

-- an input that ends in the body is refused, and taken whole
body_cut : framed_by (Expect expected) 100 (codes "bod") ≡ record { framed = Refused Malformed false; front = 103; is_due = true }
body_cut = refl

-- of a request that is refused the body isn't taken
refused_unread : framed_by (Refuse BodyTooLarge false) 100 (codes "body") ≡ record { framed = Refused BodyTooLarge false; front = 100; is_due = false }
refused_unread = refl
