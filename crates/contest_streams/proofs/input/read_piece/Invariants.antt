use Rattle.std.proofs.Common.{◌≤◌}
use Rattle.std.specs.Io.KnownBytes.{Keeps}
use Rattle.contest_streams.proofs.input.read_piece.Given as goal

abbrev pub invariant-loop-count : goal.invariant-loop-count
invariant-loop-count g l = record {
  kept : Keeps (g.R.Read.remaining l.fn.reader.inner) (g.R.Read.remaining l.reader.inner);
  count : l.fn.reader.faults ≤ l.reader.faults;
}

abbrev pub decreases-loop-count : goal.decreases-loop-count
decreases-loop-count g l = l.retries
