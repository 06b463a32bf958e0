use Rattle.std.proofs.Common.{◌≡◌, ◌∙◌, Bool, IfOk, subst}
use Rattle.contest_store_valid.proofs.TalkLemmas.{answered_stand}
use Rattle.contest_store_valid.proofs.replies.replies_stand.Goals as goal

pub returns : goal.returns
returns c =
    let is = answered_stand c.args.clarifications.now c.deref.result.now c.deref-2.result.now (c.deref.ensures.value ∙ c.in_ok-standing.ensures) (c.deref-2.ensures.value ∙ c.in_ok-named.ensures) in
    subst (λ (b : Bool). IfOk c.all_stand.result (λ answer. answer ≡ b)) is c.all_stand.ensures
