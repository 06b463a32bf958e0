use Rattle.std.proofs.Common.{◌≡◌, ◌∙◌, Bool, IfOk, subst}
use Rattle.contest_store_valid.proofs.MemberLemmas.{members_released}
use Rattle.contest_store_valid.proofs.members.have_releases.Goals as goal

pub returns : goal.returns
returns c =
    let is = members_released c.args.lists.now c.deref.result.now c.deref-2.result.now (rw c.releases.ensures at (c.deref.ensures.value ∙ c.in_ok-standing.ensures)) (rw c.rejudgings.ensures at (c.deref-2.ensures.value ∙ c.in_ok-named.ensures)) in
    subst (λ (b : Bool). IfOk c.all_stand.result (λ answer. answer ≡ b)) is c.all_stand.ensures
