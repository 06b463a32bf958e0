use Rattle.std.proofs.Common.{◌≡◌, ◌∙◌, Bool, IfOk, subst}
use Rattle.contest_store_valid.proofs.ReleaseLemmas.{on_submissions}
use Rattle.contest_store_valid.proofs.releases.are_on_submissions.Goals as goal

pub returns : goal.returns
returns c =
    let is = on_submissions c.args.lists.now c.args.lists.now.releases c.deref.result.now (rw c.releases.ensures at (c.deref.ensures.value ∙ c.in_ok-named.ensures)) in
    subst (λ (b : Bool). IfOk c.submissions_stand.result (λ answer. answer ≡ b)) is c.submissions_stand.ensures
