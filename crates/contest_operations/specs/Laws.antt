-- What holds of every step, in the subject's words. Each is the contract of a function of src/laws.rt.
use Rattle.std.specs.Prelude.{◌≡◌, ◌≢◌, ◌↔◌, ◌<◌, ℕ, true, All, List, IfSome, Some}
use Rattle.std.specs.Str.{is_utf8}
use Rattle.contest_types.specs.Alike.{Alike, MayBeHeld}
use Rattle.contest_types.specs.Order.{Has}
use Rattle.contest_types.specs.State.{FixedPart, ContestState, add_all}
use Rattle.contest_types.specs.Valid.{is_valid}
use Rattle.contest_types.specs.declared.audience.Audience.{Audience}
use Rattle.contest_types.specs.declared.audience.Audience.TheVariants.{Jury}
use Rattle.contest_operations.specs.Callers.{caller_of, audience_of}
use Rattle.contest_operations.specs.Outcomes.{Outcome}
use Rattle.contest_operations.specs.Commands.{IsSoundPost, post_outcome, poster}
use Rattle.contest_operations.specs.Readings.{read}
use Rattle.contest_operations.specs.Replies.{IsStoreReply}
use Rattle.contest_operations.specs.RouteReading.{goes_by}
use Rattle.contest_operations.specs.Routes.{offer_at, route_rows}
use Rattle.contest_operations.specs.Step.{step}
use Rattle.contest_operations.specs.declared.offer.Offer.{Offer}
use Rattle.contest_operations.specs.declared.operation.Reading.{Reading}
use Rattle.contest_requests.specs.declared.request.Credential.{Credential}
use Rattle.contest_requests.specs.declared.request.Method.TheVariants.{Get, Head}
use Rattle.contest_requests.specs.declared.request.Request.{Request}
use Rattle.contest_operations.specs.declared.command.Posted.{Posted}

-- whoever has this credential, if anyone, has the sight of this audience
abbrev pub HasSight : FixedPart → Credential → Audience → Type 0
HasSight f credential a = IfSome (caller_of f credential) (λ who. audience_of who ≡ a)

-- two contests are answered alike, and what is added leaves them alike
abbrev pub StayAlike : Audience → (x y : ContestState) → (p q : Outcome) → Type 0
StayAlike a x y p q = (p.reply ≡ q.reply) × Alike a (add_all x p.entries) (add_all y q.entries)

-- until the thaw, what an audience reads, by whatever path, tells nothing that it may not learn
abbrev pub ReadsAlike : Type 0
ReadsAlike =
    (a : Audience) (now : ℕ) (x y : ContestState) (reading : Reading) (path : List ℕ) → MayBeHeld a now x → Alike a x y
    → read a now x reading path ≡ read a now y reading path

-- nor does what becomes of what it posts. The jury sees more than is compared
abbrev pub PostsAlike : Type 0
PostsAlike =
    (now : ℕ) (posted : Posted) (x y : ContestState) → poster posted ≢ Jury → is_valid x ≡ true → is_valid y ≡ true → IsSoundPost x.fixed posted
    → Alike (poster posted) x y → StayAlike (poster posted) x y (post_outcome now posted x) (post_outcome now posted y)

-- until the thaw, valid contests that are alike for a caller answer each of its requests alike, and are
-- alike for it afterwards
abbrev pub StepAlike : Type 0
StepAlike =
    (a : Audience) (now : ℕ) (credential : Credential) (request : Request) (x y : ContestState) → is_valid x ≡ true → is_valid y ≡ true
    → HasSight x.fixed credential a → MayBeHeld a now x → Alike a x y
    → ((step x now credential request).0 ≡ (step y now credential request).0) × Alike a (step x now credential request).1 (step y now credential request).1

-- HEAD is answered as GET is; the body's bytes are left out where the reply is written
abbrev pub HeadIsGet : Type 0
HeadIsGet =
    (x : ContestState) (now : ℕ) (credential : Credential) (request : Request)
    → step x now credential (record request { method = Head }) ≡ step x now credential (record request { method = Get })

-- a step leaves a valid contest valid
abbrev pub StepsKeepValid : Type 0
StepsKeepValid = (now : ℕ) (credential : Credential) (request : Request) (x : ContestState) → is_valid x ≡ true → is_valid (step x now credential request).1 ≡ true

-- no step answers that the store failed or that memory was refused
abbrev pub StepsNeverFail : Type 0
StepsNeverFail = (now : ℕ) (credential : Credential) (request : Request) (x : ContestState) → IsStoreReply (step x now credential request).0 → ⊥

-- a path of bytes that are a text is offered what the row of the table offers by which it goes, and nothing if it goes by none
abbrev pub RoutesRead : Type 0
RoutesRead =
    (path : List ℕ) → All (λ b. b < 256) path → is_utf8 path ≡ true → (offer : Offer)
    → (offer_at path ≡ Some offer) ↔ ((text : List ℕ) × Has route_rows (text, offer) × (goes_by text path ≡ true))
