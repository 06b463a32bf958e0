use Rattle.std.proofs.Common.{◌≡◌, ◌∙◌, Bool, IfOk, subst}
use Rattle.contest_types.specs.ValidRejudgings.{open_members}
use Rattle.contest_store_valid.proofs.MemberLemmas.{different_by_submission}
use Rattle.contest_store_valid.proofs.members.share_no_member.Goals as goal

pub returns : goal.returns
returns c =
    let is = different_by_submission (open_members c.args.rejudgings.now) c.deref.result.now (c.deref.ensures.value ∙ c.in_ok-pairs.ensures) in
    subst (λ (b : Bool). IfOk c.are_at_most.result (λ answer. answer ≡ b)) is c.are_at_most.ensures
