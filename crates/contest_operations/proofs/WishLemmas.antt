-- A wish that is read is its caller's, and is sound; what refuses it is no failure.
use Rattle.std.proofs.Common.{◌≡◌, ◌∙◌, ℕ, Bool, true, false, List, Option, Some, None, Result, Ok, Err, refl, sym, ap, subst}
use Rattle.std.specs.Prelude.{IfSome, ◌==◌, if◌then◌else◌}
use Rattle.contest_types.specs.State.{ContestState, FixedPart}
use Rattle.contest_types.specs.Valid.{is_valid}
use Rattle.contest_types.specs.declared.audience.Audience.{Audience}
use Rattle.contest_types.specs.Refusals.{status_of}
use Rattle.contest_types.specs.declared.refusal.Refusal.{Refusal}
use Rattle.contest_types.specs.declared.refusal.Refusal.TheVariants.{NotFound}
use Rattle.contest_operations.specs.Callers.{Caller, caller_of, audience_of}
use Rattle.contest_operations.specs.Offers.{is_served, operation_of}
use Rattle.contest_operations.specs.Replies.{refused, IsOrdinary}
use Rattle.contest_operations.specs.Routes.{offer_at}
use Rattle.contest_operations.specs.Step.{is_here, or_not_allowed, offered, asked_there, asked, or_refused, wish_or_reply_by, wish_or_reply}
use Rattle.contest_operations.specs.Commands.{posted_by, poster}
use Rattle.contest_operations.specs.Wishes.{may_read, named_by, unread_refusal, wish_to_do, wish_of, IsSound}
use Rattle.contest_operations.specs.declared.offer.Offer.{Offer}
use Rattle.contest_operations.specs.declared.command.Posted.{Posted}
use Rattle.contest_operations.specs.declared.operation.Operation.{Operation}
use Rattle.contest_operations.specs.declared.operation.Operation.TheVariants.{Read as ToRead, Do as ToDo}
use Rattle.contest_operations.specs.declared.operation.Reading.{Reading}
use Rattle.contest_operations.specs.declared.operation.Reading.TheVariants.{Whole, List as AllOf, Object, File, Feed, Scoreboard, GroupScoreboard, Account as OwnAccount, Jury as ForJury}
use Rattle.contest_operations.specs.declared.reply.Reply.{Reply}
use Rattle.contest_requests.specs.declared.request.Credential.{Credential}
use Rattle.contest_requests.specs.declared.request.Method.{Method}
use Rattle.contest_requests.specs.declared.request.Request.{Request}
use Rattle.contest_operations.specs.declared.wish.Wish.{Wish}
use Rattle.contest_operations.specs.declared.wish.Wish.TheVariants.{Read, Do}
use Rattle.contest_operations.proofs.CallerLemmas.{account_there, caller_there, judge_there}
use Rattle.contest_operations.proofs.CommandLemmas.{post_known, post_refusal_ordinary}
use Rattle.contest_operations.proofs.PostedFacts.{IfKnownPost, IsThere, OrdinaryRefusal}

-- whose sight a wish is answered by
abbrev pub speaker : Wish → Audience
speaker (Read reading a path) = a
speaker (Do posted) = poster posted

abbrev pub SpeaksFor : Option Caller → Wish → Type 0
SpeaksFor None wish = ⊥
SpeaksFor (Some who) wish = speaker wish ≡ audience_of who

pub record IsKnown (f : FixedPart) (o : Option Caller) (wish : Wish) : Type 0 where
  pub sound : IsSound f wish
  pub speaks : SpeaksFor o wish

abbrev pub IfKnown : {E : Type 0} → FixedPart → Option Caller → Result Wish E → Type 0
IfKnown f o (Err e) = Unit {0}
IfKnown f o (Ok wish) = IsKnown f o wish

to_do_known : (f : FixedPart) (who : Caller) (r : Result Posted Refusal) → IfKnownPost f who r → IfKnown f (Some who) (wish_to_do r)
to_do_known f who (Err e) h = tt
to_do_known f who (Ok posted) h = record { sound = h.sound; speaks = h.speaks }

pub wish_known : (f : FixedPart) (who : Caller) (operation : Operation) (request : Request) → IsThere f who → IfKnown f (Some who) (wish_of f who operation request)
wish_known f who (ToRead reading) request there =
    let go : (b : Bool) → IfKnown {E = Refusal} f (Some who) (if b then Ok (Read reading (audience_of who) (named_by who reading request.path)) else Err (unread_refusal reading)) = elim [ true ↦ record { sound = tt; speaks = refl } | false ↦ tt ] in
    go (may_read who reading)
wish_known f who (ToDo command) request there = to_do_known f who (posted_by f who command request) (post_known f who command request there)

refused_known : (f : FixedPart) (o : Option Caller) (r : Result Wish Refusal) → IfKnown f o r → IfKnown f o (or_refused r)
refused_known f o (Err e) h = tt
refused_known f o (Ok wish) h = h

by_known : (f : FixedPart) (o : Option Caller) (request : Request) (r : Result Operation Reply) → IfSome o (IsThere f) → IfKnown f o (wish_or_reply_by f o request r)
by_known f o request (Err reply) there = tt
by_known f None request (Ok operation) there = tt
by_known f (Some who) request (Ok operation) there = refused_known f (Some who) (wish_of f who operation request) (wish_known f who operation request there)

known_there : (x : ContestState) (credential : Credential) (o : Option Caller) → is_valid x ≡ true → caller_of x.fixed credential ≡ o → IfSome o (IsThere x.fixed)
known_there x credential None valid is = tt
known_there x credential (Some who) valid is = record { team = caller_there x x.fixed credential who valid refl is; judge = judge_there x.fixed credential who is; account = account_there x credential who valid is }

pub wished_known : (x : ContestState) (credential : Credential) (request : Request) → is_valid x ≡ true → IfKnown x.fixed (caller_of x.fixed credential) (wish_or_reply x.fixed credential request)
wished_known x credential request valid =
    by_known x.fixed (caller_of x.fixed credential) request (asked x.fixed.settings.head.id request.path request.method) (known_there x credential (caller_of x.fixed credential) valid refl)

-- what refuses a request is no failure
abbrev pub OrdinaryError : {A : Type 0} → Result A Reply → Type 0
OrdinaryError (Ok a) = Unit {0}
OrdinaryError (Err reply) = IsOrdinary reply

allowed_ordinary : (offer : Offer) (o : Option Operation) → OrdinaryError (or_not_allowed offer o)
allowed_ordinary offer None = refl
allowed_ordinary offer (Some operation) = tt

served_ordinary : (method : Method) (offer : Offer) (b : Bool) → OrdinaryError (if b then or_not_allowed offer (operation_of offer method) else Err (refused NotFound))
served_ordinary method offer true = allowed_ordinary offer (operation_of offer method)
served_ordinary method offer false = refl

here_ordinary : (method : Method) (offer : Offer) (b : Bool) → OrdinaryError (if b then offered method offer else Err (refused NotFound))
here_ordinary method offer true = served_ordinary method offer (is_served offer)
here_ordinary method offer false = refl

there_ordinary : (contest path : List ℕ) (method : Method) (o : Option Offer) → OrdinaryError (asked_there contest path method o)
there_ordinary contest path method None = refl
there_ordinary contest path method (Some offer) = here_ordinary method offer (is_here contest path)

asked_ordinary : (contest path : List ℕ) (method : Method) → OrdinaryError (asked contest path method)
asked_ordinary contest path method = there_ordinary contest path method (offer_at path)

to_do_ordinary : (r : Result Posted Refusal) → OrdinaryRefusal r → OrdinaryRefusal (wish_to_do r)
to_do_ordinary (Err e) h = h
to_do_ordinary (Ok posted) h = tt

unread_ordinary : (reading : Reading) → (status_of (unread_refusal reading) == 503) ≡ false
unread_ordinary (Whole endpoint) = refl
unread_ordinary (AllOf endpoint) = refl
unread_ordinary (Object endpoint) = refl
unread_ordinary File = refl
unread_ordinary Feed = refl
unread_ordinary Scoreboard = refl
unread_ordinary GroupScoreboard = refl
unread_ordinary OwnAccount = refl
unread_ordinary (ForJury reading) = refl

pub wish_ordinary : (f : FixedPart) (who : Caller) (operation : Operation) (request : Request) → OrdinaryRefusal (wish_of f who operation request)
wish_ordinary f who (ToRead reading) request =
    let go : (b : Bool) → OrdinaryRefusal (if b then Ok (Read reading (audience_of who) (named_by who reading request.path)) else Err (unread_refusal reading)) = elim [ true ↦ tt | false ↦ unread_ordinary reading ] in
    go (may_read who reading)
wish_ordinary f who (ToDo command) request = to_do_ordinary (posted_by f who command request) (post_refusal_ordinary f who command request)

refused_ordinary : (r : Result Wish Refusal) → OrdinaryRefusal r → OrdinaryError (or_refused r)
refused_ordinary (Err e) h = h
refused_ordinary (Ok wish) h = tt

by_ordinary : (f : FixedPart) (o : Option Caller) (request : Request) (r : Result Operation Reply) → OrdinaryError r → OrdinaryError (wish_or_reply_by f o request r)
by_ordinary f o request (Err reply) h = h
by_ordinary f None request (Ok operation) h = refl
by_ordinary f (Some who) request (Ok operation) h = refused_ordinary (wish_of f who operation request) (wish_ordinary f who operation request)

pub wished_ordinary : (f : FixedPart) (credential : Credential) (request : Request) → OrdinaryError (wish_or_reply f credential request)
wished_ordinary f credential request = by_ordinary f (caller_of f credential) request (asked f.settings.head.id request.path request.method) (asked_ordinary f.settings.head.id request.path request.method)

-- a caller who is known, an operation that is offered and a body that is read make the wish
pub wished_is : (f : FixedPart) (credential : Credential) (request : Request) (who : Caller) (operation : Operation) (wish : Wish) → caller_of f credential ≡ Some who
    → asked f.settings.head.id request.path request.method ≡ Ok operation → wish_of f who operation request ≡ Ok wish → Ok wish ≡ wish_or_reply f credential request
wished_is f credential request who operation wish calls asks wishes =
    sym (ap (λ o. wish_or_reply_by f o request (asked f.settings.head.id request.path request.method)) calls ∙ (ap (wish_or_reply_by f (Some who) request) asks ∙ ap or_refused wishes))

pub wished_sound : (x : ContestState) (f h : FixedPart) (credential : Credential) (request : Request) (r : Result Wish Reply) (wish : Wish) → is_valid x ≡ true → x.fixed ≡ f → f ≡ h
    → r ≡ wish_or_reply f credential request → r ≡ Ok wish → IsSound h wish
wished_sound x f h credential request r wish valid same again asks is =
    let known : IfKnown {E = Reply} f (caller_of f credential) (Ok wish) =
    subst (λ (q : Result Wish Reply). IfKnown f (caller_of f credential) q) (sym asks ∙ is) (subst (λ g. IfKnown g (caller_of g credential) (wish_or_reply g credential request)) same (wished_known x credential request valid)) in
    subst (λ g. IsSound g wish) again known.sound

pub wished_refused : (f : FixedPart) (credential : Credential) (request : Request) (who : Caller) (operation : Operation) (refusal : Refusal) → caller_of f credential ≡ Some who
    → asked f.settings.head.id request.path request.method ≡ Ok operation → wish_of f who operation request ≡ Err refusal → Err (refused refusal) ≡ wish_or_reply f credential request
wished_refused f credential request who operation refusal calls asks wishes =
    sym (ap (λ o. wish_or_reply_by f o request (asked f.settings.head.id request.path request.method)) calls ∙ (ap (wish_or_reply_by f (Some who) request) asks ∙ ap or_refused wishes))

-- a path or a method that is refused is refused for no failure
pub path_ordinary : (contest path : List ℕ) (method : Method) (reply : Reply) → asked contest path method ≡ Err reply → IsOrdinary reply
path_ordinary contest path method reply is = subst OrdinaryError is (asked_ordinary contest path method)

-- nor is a wish
pub wish_refusal_ordinary : (f : FixedPart) (who : Caller) (operation : Operation) (request : Request) (refusal : Refusal) → wish_of f who operation request ≡ Err refusal → IsOrdinary (refused refusal)
wish_refusal_ordinary f who operation request refusal is = subst OrdinaryRefusal is (wish_ordinary f who operation request)
