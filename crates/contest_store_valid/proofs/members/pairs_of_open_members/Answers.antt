use Rattle.contest_store_valid.proofs.MemberLemmas.{open_more}
use Rattle.contest_store_valid.proofs.members.pairs_of_open_members.Goals as goal

pub loop-rejudging-preserved : goal.loop-rejudging-preserved
loop-rejudging-preserved c =
    open_more c.args.rejudgings.now c.loop-rejudging.rejudging-index c.rejudging-item.result c.loop-rejudging.pairs.items c.push_open_pairs.new.pairs.items
    c.loop-rejudging-test.true c.rejudging-item.is c.loop-rejudging.invariant (c.in_ok-push_open_pairs.ensures)
