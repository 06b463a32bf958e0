-- One step of the desk: what a request is answered and what it adds. Refusals come in the order route,
-- method, token, role, body, references, domain (own).
use Rattle.std.specs.Prelude.{ℕ, Bool, false, not, ◌||◌, List, Option, Some, None, Result, Ok, Err, if◌then◌else◌}
use Rattle.std.specs.Str.{bytes_eq}
use Rattle.contest_types.specs.State.{FixedPart, ContestState, add_all}
use Rattle.contest_types.specs.declared.refusal.Refusal.{Refusal}
use Rattle.contest_types.specs.declared.refusal.Refusal.TheVariants.{NotFound, UnknownToken}
use Rattle.contest_operations.specs.Replies.{refused, refused_method}
use Rattle.contest_operations.specs.Routes.{offer_at}
use Rattle.contest_operations.specs.Paths.{contest_piece, is_of_contest}
use Rattle.contest_operations.specs.Offers.{is_served, methods_of, operation_of}
use Rattle.contest_operations.specs.Callers.{Caller, caller_of}
use Rattle.contest_operations.specs.Outcomes.{Outcome, replying}
use Rattle.contest_operations.specs.Wishes.{wish_of, wish_outcome, takes_memory}
use Rattle.contest_operations.specs.declared.offer.Offer.{Offer}
use Rattle.contest_operations.specs.declared.operation.Operation.{Operation}
use Rattle.contest_operations.specs.declared.reply.Reply.{Reply}
use Rattle.contest_requests.specs.declared.request.Credential.{Credential}
use Rattle.contest_requests.specs.declared.request.Method.{Method}
use Rattle.contest_requests.specs.declared.request.Request.{Request}
use Rattle.contest_operations.specs.declared.wish.Wish.{Wish}

-- a path of a contest names this one
abbrev pub is_here : (contest : List ℕ) → (path : List ℕ) → Bool
is_here contest path = not (is_of_contest path) || bytes_eq (contest_piece path) contest

-- what a method asks for on a route
abbrev pub or_not_allowed : Offer → Option Operation → Result Operation Reply
or_not_allowed offer None = Err (refused_method (methods_of offer))
or_not_allowed offer (Some operation) = Ok operation

abbrev pub offered : Method → Offer → Result Operation Reply
offered method offer = if is_served offer then or_not_allowed offer (operation_of offer method) else Err (refused NotFound)

-- what a method asks for on a path, by what is offered there
abbrev pub asked_there : (contest : List ℕ) → (path : List ℕ) → Method → Option Offer → Result Operation Reply
asked_there contest path method None = Err (refused NotFound)
asked_there contest path method (Some offer) = if is_here contest path then offered method offer else Err (refused NotFound)

-- what a request asks for, or the reply that it can't be asked for: the route first, then the method
abbrev pub asked : (contest : List ℕ) → (path : List ℕ) → Method → Result Operation Reply
asked contest path method = asked_there contest path method (offer_at path)

abbrev pub or_refused : Result Wish Refusal → Result Wish Reply
or_refused (Err refusal) = Err (refused refusal)
or_refused (Ok wish) = Ok wish

abbrev pub wish_or_reply_by : FixedPart → Option Caller → Request → Result Operation Reply → Result Wish Reply
wish_or_reply_by f who request (Err reply) = Err reply
wish_or_reply_by f None request (Ok operation) = Err (refused UnknownToken)
wish_or_reply_by f (Some who) request (Ok operation) = or_refused (wish_of f who operation request)

-- what a request wishes, or the reply that refuses it, of the fixed part alone
abbrev pub wish_or_reply : FixedPart → Credential → Request → Result Wish Reply
wish_or_reply f credential request = wish_or_reply_by f (caller_of f credential) request (asked f.settings.head.id request.path request.method)

abbrev pub takes_memory_by : Option Caller → Result Operation Reply → Bool
takes_memory_by who (Err reply) = false
takes_memory_by None (Ok operation) = false
takes_memory_by (Some who) (Ok operation) = takes_memory who operation

-- answering a request may take memory: not where its route, its method, its token or its caller's role refuses it
abbrev pub may_take_memory : FixedPart → Credential → Request → Bool
may_take_memory f credential request = takes_memory_by (caller_of f credential) (asked f.settings.head.id request.path request.method)

abbrev pub outcome_of : ContestState → (now : ℕ) → Result Wish Reply → Outcome
outcome_of x now (Err reply) = replying reply
outcome_of x now (Ok wish) = wish_outcome now wish x

-- what a request comes to at a moment
abbrev pub outcome : ContestState → (now : ℕ) → Credential → Request → Outcome
outcome x now credential request = outcome_of x now (wish_or_reply x.fixed credential request)

-- the reply, and the contest afterwards: as it was, unless something is added
abbrev pub step : ContestState → (now : ℕ) → Credential → Request → Reply × ContestState
step x now credential request = ((outcome x now credential request).reply, add_all x (outcome x now credential request).entries)
