-- HEAD asks for what GET asks for.
use Rattle.std.proofs.Common.{◌≡◌, ℕ, List, Option, Some, None, refl, ap, ◌∙◌}
use Rattle.std.specs.Prelude.{Result, Ok, Err}
use Rattle.contest_types.specs.State.{FixedPart, ContestState, add_all}
use Rattle.contest_operations.specs.Callers.{Caller, caller_of}
use Rattle.contest_operations.specs.Outcomes.{Outcome}
use Rattle.contest_operations.specs.Routes.{offer_at}
use Rattle.contest_operations.specs.Step.{asked_there, asked, or_refused, wish_or_reply_by, outcome_of}
use Rattle.contest_operations.specs.Wishes.{wish_to_do}
use Rattle.contest_operations.specs.Laws.{HeadIsGet}
use Rattle.contest_operations.specs.declared.offer.Offer.{Offer}
use Rattle.contest_operations.specs.declared.operation.Operation.{Operation}
use Rattle.contest_operations.specs.declared.operation.Operation.TheVariants.{Read, Do}
use Rattle.contest_operations.specs.declared.reply.Reply.{Reply}
use Rattle.contest_requests.specs.declared.request.Method.TheVariants.{Get, Head}
use Rattle.contest_requests.specs.declared.request.Request.{Request}
use Rattle.contest_operations.proofs.CommandLemmas.{post_unmoved}

there_alike : (contest path : List ℕ) (o : Option Offer) → asked_there contest path Head o ≡ asked_there contest path Get o
there_alike contest path None = refl
there_alike contest path (Some offer) = refl

-- what is wished doesn't go by the method
wished_alike : (f : FixedPart) (who : Option Caller) (request : Request) (asks : Result Operation Reply) → wish_or_reply_by f who (record request { method = Head }) asks ≡ wish_or_reply_by f who (record request { method = Get }) asks
wished_alike f who request (Err reply) = refl
wished_alike f None request (Ok operation) = refl
wished_alike f (Some who) request (Ok (Read reading)) = refl
wished_alike f (Some who) request (Ok (Do command)) = ap (λ r. or_refused (wish_to_do r)) (post_unmoved f who command request)

abbrev stepped : ContestState → Outcome → Reply × ContestState
stepped x o = (o.reply, add_all x o.entries)

pub head_is_get : HeadIsGet
head_is_get x now credential request =
    let contest = x.fixed.settings.head.id in
    let who = caller_of x.fixed credential in
    ap (λ wish. stepped x (outcome_of x now wish))
    (ap (wish_or_reply_by x.fixed who (record request { method = Head })) (there_alike contest request.path (offer_at request.path)) ∙ wished_alike x.fixed who request (asked contest request.path Get))
