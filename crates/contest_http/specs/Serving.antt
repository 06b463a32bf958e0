-- One request served: what was taken of the input, what went out, and what became of the contest (own).
use Rattle.std.specs.Prelude.{◌≡◌, ◌≢◌, ◌⊎◌, ℕ, List, ◌++◌, Bool, true, Option, Result, Ok, Err, take}
use Rattle.std.specs.Io.KnownBytes.{Appends}
use Rattle.contest_types.specs.Alike.{Alike, MayBeHeld}
use Rattle.contest_types.specs.State.{ContestState}
use Rattle.contest_streams.specs.Streams.{AppendsFront, Failed}
use Rattle.contest_types.specs.Valid.{is_valid}
use Rattle.contest_types.specs.declared.audience.Audience.{Audience}
use Rattle.contest_types.specs.declared.refusal.Refusal.{Refusal}
use Rattle.contest_types.specs.declared.refusal.Refusal.TheVariants.{Memory, StoreFault}
use Rattle.contest_store.specs.Keeping.{Kept}
use Rattle.contest_operations.specs.Laws.{HasSight}
use Rattle.contest_operations.specs.Replies.{refused, IsStoreReply}
use Rattle.contest_operations.specs.Step.{may_take_memory, outcome, step}
use Rattle.contest_operations.specs.declared.reply.Reply.{Reply}
use Rattle.contest_requests.specs.declared.request.Credential.{Credential}
use Rattle.contest_requests.specs.declared.request.Request.{Request}
use Rattle.contest_desk.specs.Doing.{DoesOrFails}
use Rattle.contest_http.specs.Frames.{Frame, IsFrame}
use Rattle.contest_http.specs.Reading.{BeforeRead, Due, RefusesMemory, Takes, interim, interim_text}
use Rattle.contest_http.specs.Spelling.{IsSpelling}
use Rattle.contest_http.specs.declared.framed.Framed.TheVariants.{Asked, Nothing, Refused}
use Rattle.contest_http.specs.declared.framed.ServeFault.{ServeFault}
use Rattle.contest_http.specs.declared.framed.ServeFault.TheVariants.{Read, Write}
use Rattle.contest_http.specs.declared.framed.Served.{Served}
use Rattle.contest_http.specs.declared.framed.Served.TheVariants as served

-- the request is one step of the machine, kept before it is answered; or the store failed or memory was refused, and
-- the contest is as before. Until the thaw the reply is the machine's over every contest that is alike for the caller
pub record Handles {S : Type 0} (kept : S → Kept) (before after : S) (now : ℕ) (credential : Credential) (request : Request) (reply : Reply) : Type 0 where
  pub answered : (kept after).is_clean → ¬ (IsStoreReply reply) → reply ≡ (step (kept before).contest now credential request).0
  pub leaves : DoesOrFails (kept before) (kept after) (step (kept before).contest now credential request).1 (outcome (kept before).contest now credential request).entries
      (IsStoreReply reply) (reply ≡ refused StoreFault)
  pub isolated : (kept after).is_clean → ¬ (IsStoreReply reply) → (a : Audience) (y : ContestState) → HasSight (kept before).contest.fixed credential a
      → MayBeHeld a now (kept before).contest → is_valid y ≡ true → Alike a (kept before).contest y
      → (reply ≡ (step y now credential request).0) × Alike a (kept after).contest (step y now credential request).1
  pub memory : (kept after).is_clean → reply ≡ refused Memory
      → Failed (kept before).refusals (kept after).refusals ⊎ (may_take_memory (kept before).contest.fixed credential request ≡ true)

-- one request is handled at most, whatever is known of the streams
abbrev pub HandlesOne : {S : Type 0} (kept : S → Kept) (now : ℕ) (before after : S) → Type 0
HandlesOne kept now before after =
    (after ≡ before) ⊎ ((credential : Credential) × (request : Request) × (reply : Reply) × Handles kept before after now credential request reply)

-- what is answered, after `first` went out: the desk's reply to the request, a refusal of what is no request, or want
-- of memory while it was read; by the last two the contest stays as it is
abbrev pub Decides : {S : Type 0} (kept : S → Kept) (input left : List ℕ) (now : ℕ) (before after : S) (first : List ℕ) → Reply → Bool → Type 0
Decides kept input left now before after first reply head_only =
    ((credential : Credential) × (request : Request) × Takes input left (Asked credential request head_only) first × Handles kept before after now credential request reply)
    ⊎ (((refusal : Refusal) × Takes input left (Refused refusal head_only) first × (reply ≡ refused refusal) × (after ≡ before))
    ⊎ (RefusesMemory input left (Refused Memory head_only) first × (reply ≡ refused Memory) × (after ≡ before)))

-- a reply and its text, with what went out before it
pub record Answer {S : Type 0} (kept : S → Kept) (input left : List ℕ) (now : ℕ) (before after : S) : Type 0 where
  pub first : List ℕ
  pub reply : Reply
  pub head_only : Bool
  pub decided : Decides kept input left now before after first reply head_only
  pub text : List ℕ
  pub spelled : IsSpelling now reply head_only text

-- the six ways of serving one request: the input was empty; it was answered, also where memory was refused; a read
-- failed; a write failed in the interim reply, or in the reply
abbrev pub ServesOne : {S : Type 0} (kept : S → Kept) (input left : List ℕ) (old new : Option (List ℕ)) (now : ℕ) (before after : S) → Result Served ServeFault → Type 0
ServesOne kept input left old new now before after (Ok served.Nothing) =
    (first : List ℕ) × Takes input left Nothing first × Appends old new first × (after ≡ before)
ServesOne kept input left old new now before after (Ok (served.Answered status)) =
    (a : Answer kept input left now before after) × (status ≡ a.reply.status) × Appends old new (a.first ++ a.text)
ServesOne kept input left old new now before after (Err Read) = BeforeRead input old new × (after ≡ before)
ServesOne kept input left old new now before after (Err Write) =
    (Due input × AppendsFront old new interim_text × (after ≡ before))
    ⊎ ((a : Answer kept input left now before after) × (count : ℕ) × Appends old new (a.first ++ take count a.text))

-- a request that was answered, by another status than that of a failure: until the thaw the bytes that went out are
-- those of the machine's reply over every contest that is alike for the caller, and the contests stay alike
abbrev pub AnswersAlike : {S : Type 0} (kept : S → Kept) (input : List ℕ) (old new : Option (List ℕ)) (now : ℕ) (before after : S) → Result Served ServeFault → Type 0
AnswersAlike kept input old new now before after result =
    (status : ℕ) → result ≡ Ok (served.Answered status) → status ≢ 503
    → (f : Frame) → IsFrame input f → (credential : Credential) (request : Request) (head_only : Bool) → f.framed ≡ Asked credential request head_only
    → (a : Audience) (y : ContestState) → HasSight (kept before).contest.fixed credential a → MayBeHeld a now (kept before).contest
    → is_valid y ≡ true → Alike a (kept before).contest y
    → ((text : List ℕ) → IsSpelling now (step y now credential request).0 head_only text → Appends old new (interim f.is_due ++ text))
    × Alike a (kept after).contest (step y now credential request).1

-- Words of private functions, from here on: nothing public is said with them.

-- a reply is written, or a front of it
abbrev pub Answers : (now : ℕ) → Reply → Bool → (old new : Option (List ℕ)) → Result Served ServeFault → Type 0
Answers now reply head_only old new (Ok served.Nothing) = ⊥
Answers now reply head_only old new (Ok (served.Answered status)) = (status ≡ reply.status) × (text : List ℕ) × IsSpelling now reply head_only text × Appends old new text
Answers now reply head_only old new (Err Read) = ⊥
Answers now reply head_only old new (Err Write) = (text : List ℕ) × IsSpelling now reply head_only text × AppendsFront old new text
