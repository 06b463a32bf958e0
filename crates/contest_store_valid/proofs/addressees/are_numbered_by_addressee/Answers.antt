use Rattle.std.proofs.Common.{◌≡◌, ◌∙◌, Bool, IfOk, subst}
use Rattle.contest_store_valid.proofs.TalkLemmas.{numbered_by_addressee}
use Rattle.contest_store_valid.proofs.addressees.are_numbered_by_addressee.Goals as goal

pub returns : goal.returns
returns c =
    let is = numbered_by_addressee c.args.clarifications.now c.deref.result.now c.deref-2.result.now (c.deref.ensures.value ∙ c.in_ok-addressees.ensures) (c.deref-2.ensures.value ∙ c.in_ok-numbers.ensures) in
    subst (λ (b : Bool). IfOk c.are_numbered.result (λ answer. answer ≡ b)) is c.are_numbered.ensures
