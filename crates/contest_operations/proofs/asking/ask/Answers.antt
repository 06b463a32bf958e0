use Rattle.std.proofs.Common.{◌≡◌, ◌∙◌, ap, sym, rules}
use Rattle.std.specs.Prelude.{Ok, Err}
use Rattle.contest_operations.specs.Callers.{team_of}
use Rattle.contest_operations.specs.Replies.{IsOrdinary}
use Rattle.contest_operations.specs.Step.{asked}
use Rattle.contest_operations.specs.Wishes.{wish_of}
use Rattle.contest_operations.proofs.CallerLemmas.{caller_there, caller_fits}
use Rattle.contest_operations.proofs.WishLemmas.{wished_is, wished_refused, path_ordinary, wish_refusal_ordinary}
use Rattle.contest_operations.proofs.asking.ask.Goals as goal

pub returns-in-Ok-wish_of-clause-wish : goal.returns-in-Ok-wish_of-clause-wish
returns-in-Ok-wish_of-clause-wish c = λ x valid same.
    let f = c.args.fixed.now in
    let calls = sym c.caller_of.ensures ∙ c.in-Some.is in
    let fits = caller_fits x f (team_of c.in-Some.caller) valid same (caller_there x f c.args.credential.now c.in-Some.caller valid same calls) in
    wished_is f c.args.credential.now c.args.request c.in-Some.caller c.in-Ok.operation c.in-Ok-wish_of.wish calls (search rules) (c.in-Ok-wish_of.ensures.ok fits)

pub returns-in-Err-clause-ordinary : goal.returns-in-Err-clause-ordinary
returns-in-Err-clause-ordinary c =
    let refuses : asked c.args.fixed.now.settings.head.id c.args.request.path c.args.request.method ≡ Err c.in-Err.reply = search rules in
    path_ordinary c.args.fixed.now.settings.head.id c.args.request.path c.args.request.method c.in-Err.reply refuses

pub returns-in-Err-wish_of : goal.returns-in-Err-wish_of
returns-in-Err-wish_of c =
    let f = c.args.fixed.now in
    let who = c.in-Some.caller in
    let operation = c.in-Ok.operation in
    let refusal = c.in-Err-wish_of.refusal in
    let calls = sym c.caller_of.ensures ∙ c.in-Some.is in
    let asks : asked f.settings.head.id c.args.request.path c.args.request.method ≡ Ok operation = search rules in
    let wishes : wish_of f who operation c.args.request ≡ Err refusal = search rules in
    let ordinary : IsOrdinary c.refused-in-Err-wish_of.result = rw c.refused-in-Err-wish_of.ensures (wish_refusal_ordinary f who operation c.args.request refusal wishes) in
    record {
      wish = λ x valid same. ap Err c.refused-in-Err-wish_of.ensures ∙ wished_refused f c.args.credential.now c.args.request who operation refusal calls asks wishes;
      ordinary = ordinary;
      memory = tt;
    }
