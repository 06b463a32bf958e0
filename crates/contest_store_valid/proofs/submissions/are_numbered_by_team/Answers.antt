use Rattle.std.proofs.Common.{◌≡◌, ◌∙◌, Bool, IfOk, subst}
use Rattle.contest_store_valid.proofs.SubmissionLemmas.{numbered_by_team}
use Rattle.contest_store_valid.proofs.submissions.are_numbered_by_team.Goals as goal

pub returns : goal.returns
returns c =
    let is = numbered_by_team c.args.submissions.now c.deref.result.now c.deref-2.result.now (c.deref.ensures.value ∙ c.in_ok-teams.ensures) (c.deref-2.ensures.value ∙ c.in_ok-numbers.ensures) in
    subst (λ (b : Bool). IfOk c.are_numbered.result (λ answer. answer ≡ b)) is c.are_numbered.ensures
