use Rattle.contest_rules.specs.Candidates.{is_in}
use Rattle.contest_rules.proofs.CandidateLemmas.{rejudging_more}
use Rattle.contest_rules.proofs.candidates.open_members.Goals as goal

pub loop-rejudging-preserved : goal.loop-rejudging-preserved
loop-rejudging-preserved c = λ team number.
    rejudging_more c.args.rejudgings.now c.loop-rejudging.rejudging-index c.rejudging-item.result team number (is_in c.loop-rejudging.members team number) _
    c.loop-rejudging-test.true c.rejudging-item.is (c.loop-rejudging.invariant team number) (rw c.members_if_open.ensures at (c.in_ok-more.ensures team number))
