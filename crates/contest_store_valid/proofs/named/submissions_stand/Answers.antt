use Rattle.std.proofs.Common.{◌≡◌, ◌∙◌, Bool, IfOk, subst}
use Rattle.contest_store_valid.proofs.PairLemmas.{named_stand}
use Rattle.contest_store_valid.proofs.named.submissions_stand.Goals as goal

pub returns : goal.returns
returns c =
    let is = named_stand c.args.lists.now c.deref.result.now c.args.named.now (rw c.submissions.ensures at (c.deref.ensures.value ∙ c.in_ok-standing.ensures)) in
    subst (λ (b : Bool). IfOk c.all_stand.result (λ answer. answer ≡ b)) is c.all_stand.ensures
