use Rattle.std.proofs.Common.{◌≡◌, ◌∙◌, Bool, IfOk, subst}
use Rattle.contest_store_valid.proofs.ProposalLemmas.{for_submissions}
use Rattle.contest_store_valid.proofs.proposals.are_for_submissions.Goals as goal

pub returns : goal.returns
returns c =
    let is = for_submissions c.args.lists.now c.args.lists.now.proposals c.deref.result.now (rw c.proposals.ensures at (c.deref.ensures.value ∙ c.in_ok-named.ensures)) in
    subst (λ (b : Bool). IfOk c.submissions_stand.result (λ answer. answer ≡ b)) is c.submissions_stand.ensures
