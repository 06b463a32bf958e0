use Rattle.contest_feed_reader.proofs.KeptLemmas.{next_kept}
use Rattle.contest_feed_reader.proofs.attempts.counted_attempts.Goals as goal

pub loop-row-preserved : goal.loop-row-preserved
loop-row-preserved c = λ js are.
    next_kept _ c.args.submissions.now c.loop-row.row-index c.row-item.result c.loop-row.attempts.items _ _ c.loop-row-test.true c.row-item.is
    (rw (c.attempt_of.ensures js are) at c.in_ok-push_if.ensures) (c.loop-row.invariant js are)
