-- A step adds nothing unless it is answered as done, and nothing where it reads.
use Rattle.std.proofs.Common.{◌≡◌, ℕ, List, [], Option, Some, None, Result, Ok, Err, refl, sym, ap, subst, inl, inr, if◌then◌else◌}
use Rattle.std.specs.Prelude.{◌≢◌, Bool, true, false}
use Rattle.std.specs.Option.{option_map}
use Rattle.std.proofs.lemmas.Bool.{false≢true}
use Rattle.contest_types.specs.Alike.{Alike}
use Rattle.contest_types.specs.State.{ContestState, FixedPart, add_all}
use Rattle.contest_types.specs.declared.audience.Audience.{Audience}
use Rattle.contest_types.specs.declared.refusal.Refusal.TheVariants.{NotFound}
use Rattle.contest_operations.specs.Callers.{Caller, audience_of, caller_of}
use Rattle.contest_operations.specs.Offers.{is_read, is_served, operation_of}
use Rattle.contest_operations.specs.Replies.{refused}
use Rattle.contest_operations.specs.Routes.{offer_at}
use Rattle.contest_operations.specs.Step.{is_here, or_not_allowed, offered, asked_there, asked, or_refused, wish_or_reply_by, wish_or_reply, outcome_of, outcome, step}
use Rattle.contest_operations.specs.Wishes.{may_read, named_by, unread_refusal, wish_outcome}
use Rattle.contest_operations.specs.declared.wish.Wish.{Wish}
use Rattle.contest_operations.specs.declared.wish.Wish.TheVariants.{Read, Do}
use Rattle.contest_desk.specs.UnseenLaws.{IsUnnoticed}
use Rattle.contest_operations.specs.declared.offer.Offer.{Offer}
use Rattle.contest_operations.specs.declared.operation.Operation.{Operation}
use Rattle.contest_operations.specs.declared.operation.Operation.TheVariants.{Read as ToRead, Do as ToDo}
use Rattle.contest_operations.specs.declared.operation.Reading.{Reading}
use Rattle.contest_operations.specs.declared.reply.Reply.{Reply}
use Rattle.contest_requests.specs.declared.request.Credential.{Credential}
use Rattle.contest_requests.specs.declared.request.Method.{Method}
use Rattle.contest_requests.specs.declared.request.Method.TheVariants.{Get, Head, Post, Patch, Other}
use Rattle.contest_requests.specs.declared.request.Request.{Request}
use Rattle.contest_operations.proofs.CommandLemmas.{post_quiet}
use Rattle.contest_operations.proofs.PostedFacts.{IsQuiet}
use Rattle.contest_desk.proofs.UnseenLemmas.{unseen_entries}

come_quiet : (x : ContestState) (now : ℕ) (wish : Wish) → IsQuiet (wish_outcome now wish x)
come_quiet x now (Read reading a path) = inl refl
come_quiet x now (Do posted) = post_quiet now posted x

wished_quiet : (x : ContestState) (now : ℕ) (r : Result Wish Reply) → IsQuiet (outcome_of x now r)
wished_quiet x now (Err reply) = inl refl
wished_quiet x now (Ok wish) = come_quiet x now wish

pub refused_adds_nothing : (x : ContestState) (now : ℕ) (credential : Credential) (request : Request) → (step x now credential request).0.status ≢ 200 → (step x now credential request).1 ≡ x
refused_adds_nothing x now credential request fails =
    elim (wished_quiet x now (wish_or_reply x.fixed credential request)) [
      | inl none ↦ ap (add_all x) none
      | inr done ↦ absurd (fails done)
    ]

-- it asks to read, or for nothing that is there
abbrev Reads : Operation → Type 0
Reads (ToRead reading) = Unit {0}
Reads (ToDo command) = ⊥

abbrev MayRead : Option Operation → Type 0
MayRead None = Unit {0}
MayRead (Some operation) = Reads operation

abbrev AsksToRead : Result Operation Reply → Type 0
AsksToRead (Ok operation) = Reads operation
AsksToRead (Err reply) = Unit {0}

allowed_reads : (offer : Offer) (o : Option Operation) → MayRead o → AsksToRead (or_not_allowed offer o)
allowed_reads offer None h = tt
allowed_reads offer (Some operation) h = h

got_reads : (o : Option Reading) → MayRead (option_map ToRead o)
got_reads None = tt
got_reads (Some reading) = tt

method_reads : (method : Method) (offer : Offer) → is_read method ≡ true → MayRead (operation_of offer method)
method_reads Get offer h = got_reads offer.get
method_reads Head offer h = got_reads offer.get
method_reads Post offer h = absurd (false≢true h)
method_reads Patch offer h = absurd (false≢true h)
method_reads Other offer h = absurd (false≢true h)

served_reads : (method : Method) (offer : Offer) (b : Bool) → is_read method ≡ true → AsksToRead (if b then or_not_allowed offer (operation_of offer method) else Err (refused NotFound))
served_reads method offer true h = allowed_reads offer (operation_of offer method) (method_reads method offer h)
served_reads method offer false h = tt

here_reads : (method : Method) (offer : Offer) (b : Bool) → is_read method ≡ true → AsksToRead (if b then offered method offer else Err (refused NotFound))
here_reads method offer true h = served_reads method offer (is_served offer) h
here_reads method offer false h = tt

there_reads : (contest path : List ℕ) (method : Method) (o : Option Offer) → is_read method ≡ true → AsksToRead (asked_there contest path method o)
there_reads contest path method None h = tt
there_reads contest path method (Some offer) h = here_reads method offer (is_here contest path) h

asked_reads : (contest path : List ℕ) (method : Method) → is_read method ≡ true → AsksToRead (asked contest path method)
asked_reads contest path method h = there_reads contest path method (offer_at path) h

abbrev WishesToRead : Result Wish Reply → Type 0
WishesToRead (Err reply) = Unit {0}
WishesToRead (Ok (Read reading a path)) = Unit {0}
WishesToRead (Ok (Do posted)) = ⊥

wished_reads : (f : FixedPart) (who : Option Caller) (request : Request) (r : Result Operation Reply) → AsksToRead r → WishesToRead (wish_or_reply_by f who request r)
wished_reads f who request (Err reply) h = tt
wished_reads f None request (Ok operation) h = tt
wished_reads f (Some who) request (Ok (ToRead reading)) h =
    let go : (b : Bool) → WishesToRead (or_refused (if b then Ok (Read reading (audience_of who) (named_by who reading request.path)) else Err (unread_refusal reading))) = elim [ true ↦ tt | false ↦ tt ] in
    go (may_read who reading)
wished_reads f (Some who) request (Ok (ToDo command)) h = absurd h

reads_add_nothing : (x : ContestState) (now : ℕ) (r : Result Wish Reply) → WishesToRead r → (outcome_of x now r).entries ≡ []
reads_add_nothing x now (Err reply) h = refl
reads_add_nothing x now (Ok (Read reading a path)) h = refl
reads_add_nothing x now (Ok (Do posted)) h = absurd h

pub read_adds_nothing : (x : ContestState) (now : ℕ) (credential : Credential) (request : Request) → is_read request.method ≡ true → (step x now credential request).1 ≡ x
read_adds_nothing x now credential request e =
    let contest = x.fixed.settings.head.id in
    ap (add_all x) (reads_add_nothing x now (wish_or_reply x.fixed credential request) (wished_reads x.fixed (caller_of x.fixed credential) request (asked contest request.path request.method) (asked_reads contest request.path request.method e)))

alike_as_it_was : (a : Audience) (x y : ContestState) → y ≡ x → Alike a y x
alike_as_it_was a x y e = subst (λ z. Alike a z x) (sym e) (record { fixed = refl; teams = λ team. refl; told = λ to. refl })

pub unnoticed : (a : Audience) (x : ContestState) (now : ℕ) (credential : Credential) (request : Request) → IsUnnoticed a x now credential request → Alike a (step x now credential request).1 x
unnoticed a x now credential request (inl fails) = alike_as_it_was a x _ (refused_adds_nothing x now credential request fails)
unnoticed a x now credential request (inr (inl got)) = alike_as_it_was a x _ (read_adds_nothing x now credential request got)
unnoticed a x now credential request (inr (inr unseen)) = unseen_entries a x (outcome x now credential request).entries unseen
