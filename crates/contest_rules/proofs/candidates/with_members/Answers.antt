use Rattle.contest_rules.specs.Candidates.{is_in}
use Rattle.contest_rules.proofs.CandidateLemmas.{member_more}
use Rattle.contest_rules.proofs.candidates.with_members.Goals as goal

pub loop-member-preserved : goal.loop-member-preserved
loop-member-preserved c = λ team number.
    member_more c.args.members.now c.loop-member.member-index c.member-item.result team number (is_in c.args.first team number) (is_in c.loop-member.more team number) _
    c.loop-member-test.true c.member-item.is (c.loop-member.invariant team number) (c.in_ok-insert.ensures.updates.0 (team, number))
