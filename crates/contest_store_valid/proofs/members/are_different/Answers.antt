use Rattle.std.proofs.Common.{◌≡◌, ◌∙◌, Bool, IfOk, subst}
use Rattle.contest_store_valid.proofs.MemberLemmas.{different_by_submission}
use Rattle.contest_store_valid.proofs.members.are_different.Goals as goal

pub returns : goal.returns
returns c =
    let is = different_by_submission c.args.members.now c.deref.result.now (rw c.new-pairs.ensures.items at (c.deref.ensures.value ∙ c.in_ok-push_pairs.ensures)) in
    subst (λ (b : Bool). IfOk c.are_at_most.result (λ answer. answer ≡ b)) is c.are_at_most.ensures
