-- One request of an input: what is asked, and which front of the input it takes (RFC 9112; limits are own).
use Rattle.std.specs.Prelude.{◌≡◌, ◌<◌, ℕ, ◌+◌, ◌==◌, List, [], Bool, true, false, nat_lt, length, drop, take, Option, Some, None, if◌then◌else◌}
use Rattle.httparse.specs.Grammar.{RequestHead, ReadsRequest}
use Rattle.contest_types.specs.declared.limits.TheConstants.{REQUEST_HEAD}
use Rattle.contest_types.specs.declared.refusal.Refusal.{Refusal}
use Rattle.contest_types.specs.declared.refusal.Refusal.TheVariants.{HeadTooLarge, Malformed}
use Rattle.contest_requests.specs.declared.request.Request.{Request}
use Rattle.contest_http.specs.Head.{has_end, head_of}
use Rattle.contest_http.specs.Plans.{head_plan, is_head, method_of}
use Rattle.contest_http.specs.declared.framed.Framed.{Framed}
use Rattle.contest_http.specs.declared.framed.Framed.TheVariants.{Asked, Nothing, Refused}
use Rattle.contest_http.specs.declared.plan.Expected.{Expected}
use Rattle.contest_http.specs.declared.plan.Plan.{Plan}
use Rattle.contest_http.specs.declared.plan.Plan.TheVariants.{Expect, Refuse}

-- the bytes are exactly this head, as httparse reads one by default, or none
abbrev pub IsHeadOf : List ℕ → Option RequestHead → Type 0
IsHeadOf bytes None = (h : RequestHead) → ¬ (ReadsRequest bytes h [])
IsHeadOf bytes (Some h) = ReadsRequest bytes h []

-- what is asked, how many bytes of the input it takes, and whether the interim reply is due before its body
pub record Frame : Type 0 where
  pub framed : Framed
  pub front : ℕ
  pub is_due : Bool

-- the request with this body
abbrev pub request_of : Expected → List ℕ → Request
request_of e body = record { method = e.method; path = e.path; key = e.key; body = body }

-- what is asked with the bytes that follow a head; an input that ends in the body is refused
abbrev pub framed_by : Plan → (head_length : ℕ) → (rest : List ℕ) → Frame
framed_by (Refuse refusal head_only) size rest = record { framed = Refused refusal head_only; front = size; is_due = false }
framed_by (Expect e) size rest =
    if nat_lt (length rest) e.size
    then record { framed = Refused Malformed (is_head e.method); front = size + length rest; is_due = e.is_due }
    else record { framed = Asked e.credential (request_of e (take e.size rest)) (is_head e.method); front = size + e.size; is_due = e.is_due }

-- why so many bytes without a head's end are refused
abbrev pub unended : ℕ → Refusal
unended size = if size == REQUEST_HEAD then HeadTooLarge else Malformed

-- what a head that was read asks for; bytes that are none are off their form
abbrev pub plan_found : Option RequestHead → Plan
plan_found None = Refuse Malformed false
plan_found (Some h) = head_plan h

-- what the bytes that are taken as a head ask for: nothing where there is none
pub record IsPlanOf (head : List ℕ) (plan : Option Plan) : Type 0 where
  pub none : length head ≡ 0 → plan ≡ None
  pub unended : 0 < length head → has_end head ≡ false → plan ≡ Some (Refuse (unended (length head)) false)
  pub ended : has_end head ≡ true → (found : Option RequestHead) × IsHeadOf head found × (plan ≡ Some (plan_found found))

abbrev pub frame_by : Option Plan → (head rest : List ℕ) → Frame
frame_by None head rest = record { framed = Nothing; front = 0; is_due = false }
frame_by (Some plan) head rest = framed_by plan (length head) rest

-- an input's frame
abbrev pub IsFrame : List ℕ → Frame → Type 0
IsFrame input f = (plan : Option Plan) × IsPlanOf (head_of input) plan × (f ≡ frame_by plan (head_of input) (drop (length (head_of input)) input))

-- a head was read there, and only the reply's head is asked for
abbrev pub AsksForHead : (head : List ℕ) → Type 0
AsksForHead head = (h : RequestHead) × ReadsRequest head h [] × (is_head (method_of h.method) ≡ true)
