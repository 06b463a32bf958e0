use Rattle.std.proofs.Common.{arith}
use Rattle.contest_feed_reader.proofs.TakeLemmas.{takes_both}
use Rattle.contest_feed_reader.proofs.stream.read_all.Goals as goal

pub loop-preserved : goal.loop-preserved
loop-preserved g c = record {
  takes = takes_both _ _ _ _ _ _ c.loop.invariant.takes c.in_ok-read_next.ensures.takes;
  within = c.in_ok-read_next.ensures.within;
  count = omega (arith, c.read_next.ensures.count);
}

pub returns-clause-takes : goal.returns-clause-takes
returns-clause-takes g c = takes_both _ _ _ _ _ _ c.loop.invariant.takes c.in_ok-read_next.ensures.takes
