use Rattle.std.proofs.Common.{◌∙◌, sym}
use Rattle.contest_store_rows.specs.Rejudgings.{member_in}
use Rattle.contest_store_rows.proofs.ListLemmas.{read_more}
use Rattle.contest_store_rows.proofs.rejudgings.read_members.Goals as goal

pub loop-at-preserved : goal.loop-at-preserved
loop-at-preserved c =
    let is = sym c.in_ok-member.ensures ∙ c.in-Some.is in
    let read = read_more (member_in c.args.settings.now c.args.rejudging) c.args.rows.now c.loop-at.at c.loop-at.members c.index-rows-at.result c.in-Some.member c.loop-at-test.true c.index-rows-at.is is in
    rw c.in_ok-push.ensures.ok (c.loop-at.invariant ∙ read)
