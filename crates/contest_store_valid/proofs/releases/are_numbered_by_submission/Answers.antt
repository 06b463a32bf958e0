use Rattle.std.proofs.Common.{◌≡◌, ◌∙◌, Bool, IfOk, subst}
use Rattle.contest_store_valid.proofs.ReleaseLemmas.{numbered_by_submission}
use Rattle.contest_store_valid.proofs.releases.are_numbered_by_submission.Goals as goal

pub returns : goal.returns
returns c =
    let is = numbered_by_submission c.args.releases.now c.deref.result.now c.deref-2.result.now (c.deref.ensures.value ∙ c.in_ok-submissions.ensures) (c.deref-2.ensures.value ∙ c.in_ok-rounds.ensures) in
    subst (λ (b : Bool). IfOk c.are_numbered.result (λ answer. answer ≡ b)) is c.are_numbered.ensures
