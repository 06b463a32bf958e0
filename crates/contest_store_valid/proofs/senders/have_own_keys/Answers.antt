use Rattle.std.proofs.Common.{◌≡◌, ◌∙◌, Bool, IfOk, subst, ap, map}
use Rattle.contest_store_valid.specs.Talk.{read_sent}
use Rattle.contest_store_valid.proofs.TalkLemmas.{keys_by_sender}
use Rattle.contest_store_valid.proofs.senders.have_own_keys.Goals as goal

pub returns : goal.returns
returns c =
    let is = keys_by_sender c.args.clarifications.now c.deref.result.now (ap (map read_sent) c.deref.ensures.value ∙ c.in_ok-keys.ensures) in
    subst (λ (b : Bool). IfOk c.are_at_most.result (λ answer. answer ≡ b)) is c.are_at_most.ensures
