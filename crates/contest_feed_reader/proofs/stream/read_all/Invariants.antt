use Rattle.std.proofs.Common.{◌≤◌, ◌-◌}
use Rattle.contest_feed_reader.specs.LinesLeft.{IsWithin, bytes_read}
use Rattle.contest_feed_reader.specs.StreamLeft.{Takes}
use Rattle.contest_feed_reader.specs.declared.limits.TheConstants.{FEED}
use Rattle.contest_feed_reader.proofs.stream.read_all.Given as goal

-- the bytes that were taken are read
abbrev pub invariant-loop : goal.invariant-loop
invariant-loop g l = record {
  takes : Takes l.fn.reading l.reading (g.R.Read.remaining l.fn.reader.inner) (g.R.Read.remaining l.reader.inner);
  within : IsWithin l.reading;
  count : l.fn.reader.faults ≤ l.reader.faults;
}

abbrev pub decreases-loop : goal.decreases-loop
decreases-loop g l = FEED - bytes_read l.reading
