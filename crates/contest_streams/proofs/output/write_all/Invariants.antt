use Rattle.std.proofs.Common.{◌≡◌, ◌≤◌, ◌-◌, length, take}
use Rattle.std.specs.Io.KnownBytes.{Appends}
use Rattle.contest_streams.proofs.output.write_all.Given as goal

abbrev pub invariant-loop-sent : goal.invariant-loop-sent
invariant-loop-sent g l = record {
  calm : l.out.faults ≡ l.fn.out.faults;
  within : l.sent ≤ length l.bytes;
  out : Appends (g.W.Write.contents l.fn.out.inner) (g.W.Write.contents l.out.inner) (take l.sent l.bytes);
}

abbrev pub decreases-loop-sent : goal.decreases-loop-sent
decreases-loop-sent g l = length l.bytes - l.sent
