use Rattle.std.proofs.Common.{◌≡◌, ◌∙◌, Bool, IfOk, subst}
use Rattle.contest_store_valid.proofs.ProposalLemmas.{few_by_submission}
use Rattle.contest_store_valid.proofs.proposals.are_few.Goals as goal

pub returns : goal.returns
returns c =
    let is = few_by_submission c.args.proposals.now c.deref.result.now (c.deref.ensures.value ∙ c.in_ok-submissions.ensures) in
    subst (λ (b : Bool). IfOk c.are_at_most.result (λ answer. answer ≡ b)) is c.are_at_most.ensures
