-- Worked examples: what the fields of a head ask for, and which fault is told first.
use Rattle.std.proofs.Common.{◌≡◌, ℕ, true, false, List, [], ◌∷◌, refl, Ok, Err}
use Rattle.std.specs.Prelude.{codes}
use Rattle.contest_types.specs.declared.refusal.Refusal.TheVariants.{BodyTooLarge, Encoding, Malformed}
use Rattle.contest_requests.specs.declared.request.Credential.TheVariants as credential
use Rattle.contest_requests.specs.declared.request.KeyField.TheVariants as key
use Rattle.contest_requests.specs.declared.request.Method.TheVariants as method
use Rattle.contest_http.specs.Fields.{FieldText}
use Rattle.contest_http.specs.Plans.{body_length, is_interim_due, lacks_host, method_of, plan_of}
use Rattle.contest_http.specs.declared.plan.Plan.{Plan}
use Rattle.contest_http.specs.declared.plan.Plan.TheVariants.{Expect, Refuse}

-- the length of a body
none : body_length [] ≡ Ok 0
none = refl

one : body_length (codes "12" ∷ []) ≡ Ok 12
one = refl

-- two are refused, equal ones too
two : body_length (codes "12" ∷ codes "12" ∷ []) ≡ Err Malformed
two = refl

leading_zeros : body_length (codes "0012" ∷ []) ≡ Ok 12
leading_zeros = refl

plus : body_length (codes "+12" ∷ []) ≡ Err Malformed
plus = refl

minus : body_length (codes "-1" ∷ []) ≡ Err Malformed
minus = refl

no_digit : body_length ([] ∷ []) ≡ Err Malformed
no_digit = refl

listed : body_length (codes "12, 12" ∷ []) ≡ Err Malformed
listed = refl

hexadecimal : body_length (codes "0x12" ∷ []) ≡ Err Malformed
hexadecimal = refl

largest : body_length (codes "2097152" ∷ []) ≡ Ok 2_097_152
largest = refl

one_more : body_length (codes "2097153" ∷ []) ≡ Err BodyTooLarge
one_more = refl

-- past every number of the machine, and by its zeros alone
huge : body_length (codes "18446744073709551616" ∷ []) ≡ Err BodyTooLarge
huge = refl

zeros : body_length (codes "000000000000000000000000" ∷ []) ≡ Ok 0
zeros = refl

-- the fields of a head
abbrev host : FieldText
host = (codes "Host", codes "desk.example")

abbrev expect : FieldText
expect = (codes "Expect", codes "100-Continue")

abbrev sized : List ℕ → FieldText
sized size = (codes "content-length", size)

abbrev chunked : FieldText
chunked = (codes "Transfer-Encoding", codes "chunked")

-- HTTP/1.1 wants a host, once; HTTP/1.0 doesn't ask
host_there : lacks_host 1 (host ∷ []) ≡ false
host_there = refl

no_host : lacks_host 1 [] ≡ true
no_host = refl

two_hosts : lacks_host 1 (host ∷ host ∷ []) ≡ true
two_hosts = refl

no_host_in_1_0 : lacks_host 0 [] ≡ false
no_host_in_1_0 = refl

empty_host : lacks_host 1 ((codes "HOST", []) ∷ []) ≡ false
empty_host = refl

-- the interim reply: asked for, in HTTP/1.1, with a body
interim_due : is_interim_due 1 1 (host ∷ expect ∷ []) ≡ true
interim_due = refl

second_expect : is_interim_due 1 1 ((codes "Expect", codes "other") ∷ expect ∷ []) ≡ true
second_expect = refl

no_expect : is_interim_due 1 1 (host ∷ []) ≡ false
no_expect = refl

other_expect : is_interim_due 1 1 ((codes "Expect", codes "100-continue, other") ∷ []) ≡ false
other_expect = refl

no_body : is_interim_due 1 0 (expect ∷ []) ≡ false
no_body = refl

interim_in_1_0 : is_interim_due 0 1 (expect ∷ []) ≡ false
interim_in_1_0 = refl

-- methods have a case
get : method_of (codes "GET") ≡ method.Get
get = refl

small_get : method_of (codes "get") ≡ method.Other
small_get = refl

delete : method_of (codes "DELETE") ≡ method.Other
delete = refl

-- a head with each fault, and then with one less: the first is told
abbrev asked : (target : List ℕ) → List FieldText → Plan
asked target fields = plan_of method.Post target 1 fields

encoding_first : asked (codes "*") (chunked ∷ sized (codes "9999999") ∷ []) ≡ Refuse Encoding false
encoding_first = refl

then_host : asked (codes "*") (sized (codes "9999999") ∷ []) ≡ Refuse Malformed false
then_host = refl

then_length : asked (codes "*") (host ∷ sized (codes "9999999") ∷ []) ≡ Refuse BodyTooLarge false
then_length = refl

then_target : asked (codes "*") (host ∷ sized (codes "9") ∷ []) ≡ Refuse Malformed false
then_target = refl

-- of what is none of these the desk is asked, bad credentials and keys too
abbrev credentials : List FieldText
credentials = (codes "Authorization", codes "Basic t1") ∷ (codes "Idempotency-Key", codes "k1") ∷ []

right : asked (codes "/a?b") (host ∷ sized (codes "9") ∷ expect ∷ credentials) ≡ Expect (record {
  credential = credential.Bad;
  method = method.Post;
  path = codes "/a";
  key = key.Key (codes "k1");
  size = 9;
  is_due = true;
})
right = refl

-- a refusal of HEAD is told without a body
of_head : plan_of method.Head (codes "/a") 1 [] ≡ Refuse Malformed true
of_head = refl
