-- What is taken from a reader, and what goes out, while one request is read.
use Rattle.std.specs.Prelude.{◌≡◌, ◌<◌, ◌≤◌, ◌⊎◌, ℕ, List, [], Bool, true, Result, Ok, Err, IsTrue, Option, codes, drop, length, if◌then◌else◌}
use Rattle.std.specs.Io.KnownBytes.{Appends}
use Rattle.contest_streams.specs.Streams.{AppendsFront}
use Rattle.contest_types.specs.declared.refusal.Refusal.TheVariants.{Memory}
use Rattle.contest_http.specs.Frames.{AsksForHead, Frame, IsFrame, IsPlanOf, framed_by}
use Rattle.contest_http.specs.Head.{head_of}
use Rattle.contest_http.specs.Plans.{is_head}
use Rattle.contest_http.specs.declared.framed.Framed.{Framed}
use Rattle.contest_http.specs.declared.framed.Framed.TheVariants.{Refused}
use Rattle.contest_http.specs.declared.framed.ServeFault.{ServeFault}
use Rattle.contest_http.specs.declared.framed.ServeFault.TheVariants.{Read, Write}
use Rattle.contest_http.specs.declared.plan.Expected.{Expected}
use Rattle.contest_http.specs.declared.plan.Plan.{Plan}
use Rattle.contest_http.specs.declared.plan.Plan.TheVariants.{Expect}
use Rattle.contest_http.specs.declared.request.Unplanned.{Unplanned}
use Rattle.contest_http.specs.declared.request.Unplanned.TheVariants as unplanned

-- the interim reply (RFC 9110, section 15.2.1)
unfoldable pub interim_text : List ℕ
interim_text = codes "HTTP/1.1 100 Continue\r\n\r\n"

-- it, where it is due
abbrev pub interim : Bool → List ℕ
interim is_due = if is_due then interim_text else []

-- the input is framed so: exactly its front is taken, and `first` is the interim reply if it is due
pub record Takes (input left : List ℕ) (framed : Framed) (first : List ℕ) : Type 0 where
  pub frame : Frame
  pub is : IsFrame input frame
  pub framed_is : framed ≡ frame.framed
  pub left_is : left ≡ drop frame.front input
  pub first_is : first ≡ interim frame.is_due

-- the interim reply is due
pub record Due (input : List ℕ) : Type 0 where
  pub frame : Frame
  pub is : IsFrame input frame
  pub due : frame.is_due ≡ true

-- a part of the input's front is taken, and `first` is nothing, or the interim reply where it is due
pub record TakesPart (input left first : List ℕ) : Type 0 where
  pub count : ℕ
  pub left_is : left ≡ drop count input
  pub within : (f : Frame) → IsFrame input f → count ≤ f.front
  pub first_is : (first ≡ []) ⊎ (Due input × (first ≡ interim_text))

-- memory was refused meanwhile; only the reply's head is asked for only where a head was read that says so, and it is where a
-- byte behind such a head was taken
pub record RefusesMemory (input left : List ℕ) (framed : Framed) (first : List ℕ) : Type 0 where
  pub head_only : Bool
  pub framed_is : framed ≡ Refused Memory head_only
  pub asks : IsTrue head_only → AsksForHead (head_of input)
  pub part : TakesPart input left first
  pub heeds : length (head_of input) < part.count → AsksForHead (head_of input) → IsTrue head_only

-- what went out when a read failed: nothing, or the interim reply where it is due
abbrev pub BeforeRead : List ℕ → Option (List ℕ) → Option (List ℕ) → Type 0
BeforeRead input old new = Appends old new [] ⊎ (Due input × Appends old new interim_text)

-- what reading one request does where the reader's bytes are known
abbrev pub ReadsOne : (input left : List ℕ) → (old new : Option (List ℕ)) → Result Framed ServeFault → Type 0
ReadsOne input left old new (Ok framed) =
    (first : List ℕ) × Appends old new first × (Takes input left framed first ⊎ RefusesMemory input left framed first)
ReadsOne input left old new (Err Read) = BeforeRead input old new
ReadsOne input left old new (Err Write) = Due input × AppendsFront old new interim_text

-- Words of private functions, from here on: nothing public is said with them.

-- the head is taken, and what follows is still there
pub record ReadsHead (input left : List ℕ) (plan : Option Plan) : Type 0 where
  pub left_is : left ≡ drop (length (head_of input)) input
  pub plan_is : IsPlanOf (head_of input) plan

-- a front of the head is taken
pub record TakesHeadFront (input left : List ℕ) : Type 0 where
  pub count : ℕ
  pub within : count ≤ length (head_of input)
  pub left_is : left ≡ drop count input

-- no plan is made of the head: a read failed, or memory was refused
abbrev pub StopsInHead : (input left : List ℕ) → Unplanned → Type 0
StopsInHead input left unplanned.Read = TakesHeadFront input left
StopsInHead input left (unplanned.Memory head_only) = TakesHeadFront input left × (IsTrue head_only → AsksForHead (head_of input))

-- memory was refused while the body was read
pub record RefusesBody (e : Expected) (rest left : List ℕ) (framed : Framed) : Type 0 where
  pub count : ℕ
  pub framed_is : framed ≡ Refused Memory (is_head e.method)
  pub within : count ≤ e.size
  pub fits : count ≤ length rest
  pub left_is : left ≡ drop count rest

-- what is taken of the bytes after a head that is no refusal, by what is asked
pub record TakesRest (e : Expected) (rest left : List ℕ) (framed : Framed) : Type 0 where
  pub framed_is : framed ≡ (framed_by (Expect e) 0 rest).framed
  pub left_is : left ≡ drop (framed_by (Expect e) 0 rest).front rest

-- what reading what follows a head does
abbrev pub ReadsRest : Expected → (rest left : List ℕ) → (old new : Option (List ℕ)) → Result Framed ServeFault → Type 0
ReadsRest e rest left old new (Ok framed) = Appends old new (interim e.is_due) × (TakesRest e rest left framed ⊎ RefusesBody e rest left framed)
ReadsRest e rest left old new (Err Read) = Appends old new (interim e.is_due)
ReadsRest e rest left old new (Err Write) = (e.is_due ≡ true) × AppendsFront old new interim_text
