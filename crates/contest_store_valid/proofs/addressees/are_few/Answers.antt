use Rattle.std.proofs.Common.{◌≡◌, ◌∙◌, Bool, IfOk, subst}
use Rattle.contest_store_valid.proofs.TalkLemmas.{few_by_addressee}
use Rattle.contest_store_valid.proofs.addressees.are_few.Goals as goal

pub returns : goal.returns
returns c =
    let is = few_by_addressee c.args.from_jury c.args.most c.args.clarifications.now c.deref.result.now (c.deref.ensures.value ∙ c.in_ok-addressees.ensures) in
    subst (λ (b : Bool). IfOk c.are_at_most.result (λ answer. answer ≡ b)) is c.are_at_most.ensures
