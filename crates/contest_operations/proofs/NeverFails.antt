-- No step answers that the store failed or that memory was refused: no status that it gives is 503.
use Rattle.std.proofs.Common.{◌∙◌, ℕ, List, Option, Some, None, Result, Ok, Err, refl, sym, ap, inl, inr}
use Rattle.std.specs.Prelude.{◌==◌}
use Rattle.std.proofs.lemmas.Bool.{false≢true}
use Rattle.serde_json.specs.Data.{Data}
use Rattle.contest_types.specs.State.{ContestState}
use Rattle.contest_view.specs.FileReads.{file_found}
use Rattle.contest_operations.specs.Laws.{StepsNeverFail}
use Rattle.contest_types.specs.declared.audience.Audience.{Audience}
use Rattle.contest_operations.specs.Paths.{jury_piece, object_piece}
use Rattle.contest_operations.specs.declared.operation.Reading.{Reading}
use Rattle.contest_operations.specs.declared.operation.Reading.TheVariants.{Whole, List as AllOf, Object, File, Feed, Scoreboard, GroupScoreboard, Account as OwnAccount, Jury as ForJury}
use Rattle.contest_view.specs.Scoreboards.{group_scoreboard_found}
use Rattle.contest_operations.specs.Readings.{account_found, file_told, jury_found, object_found, read, told}
use Rattle.contest_operations.specs.Wishes.{wish_outcome}
use Rattle.contest_operations.specs.declared.wish.Wish.{Wish}
use Rattle.contest_operations.specs.declared.wish.Wish.TheVariants.{Read, Do}
use Rattle.contest_operations.proofs.CommandLemmas.{post_ordinary}
use Rattle.contest_operations.proofs.WishLemmas.{OrdinaryError, wished_ordinary}
use Rattle.contest_operations.specs.Replies.{IsOrdinary}
use Rattle.contest_operations.specs.Step.{wish_or_reply, outcome_of, step}
use Rattle.contest_operations.specs.declared.reply.Reply.{Reply}
use Rattle.contest_requests.specs.declared.request.Credential.{Credential}
use Rattle.contest_requests.specs.declared.request.Request.{Request}

found_ordinary : (o : Option Data) → IsOrdinary (told o)
found_ordinary None = refl
found_ordinary (Some d) = refl

file_ordinary : (o : Option (List ℕ)) → IsOrdinary (file_told o)
file_ordinary None = refl
file_ordinary (Some bytes) = refl

read_ordinary : (a : Audience) (now : ℕ) (x : ContestState) (reading : Reading) (path : List ℕ) → IsOrdinary (read a now x reading path)
read_ordinary a now x (Whole endpoint) path = refl
read_ordinary a now x (AllOf endpoint) path = refl
read_ordinary a now x (Object endpoint) path = found_ordinary (object_found a now x endpoint (object_piece path))
read_ordinary a now x File path = file_ordinary (file_found a now x (object_piece path))
read_ordinary a now x Feed path = refl
read_ordinary a now x Scoreboard path = refl
read_ordinary a now x GroupScoreboard path = found_ordinary (group_scoreboard_found a now x (object_piece path))
read_ordinary a now x OwnAccount id = found_ordinary (account_found x.fixed id)
read_ordinary a now x (ForJury reading) path = found_ordinary (jury_found a now x reading (jury_piece path))

come_ordinary : (x : ContestState) (now : ℕ) (wish : Wish) → IsOrdinary (wish_outcome now wish x).reply
come_ordinary x now (Read reading a path) = read_ordinary a now x reading path
come_ordinary x now (Do posted) = post_ordinary now posted x

of_ordinary : (x : ContestState) (now : ℕ) (r : Result Wish Reply) → OrdinaryError r → IsOrdinary (outcome_of x now r).reply
of_ordinary x now (Err reply) ordinary = ordinary
of_ordinary x now (Ok wish) ordinary = come_ordinary x now wish

pub step_ordinary : (x : ContestState) (now : ℕ) (credential : Credential) (request : Request) → IsOrdinary (step x now credential request).0
step_ordinary x now credential request = of_ordinary x now (wish_or_reply x.fixed credential request) (wished_ordinary x.fixed credential request)

pub steps_never_fail : StepsNeverFail
steps_never_fail now credential request x fails =
    let ordinary = step_ordinary x now credential request in
    elim fails [ inl e ↦ false≢true (sym ordinary ∙ ap (λ (r : Reply). r.status == 503) e) | inr e ↦ false≢true (sym ordinary ∙ ap (λ (r : Reply). r.status == 503) e) ]
