use Rattle.std.proofs.Common.{◌≡◌, false, ◌≤◌, ◌-◌, length}
use Rattle.std.specs.Io.KnownBytes.{Consumes}
use Rattle.contest_types.specs.declared.limits.TheConstants.{REQUEST_HEAD}
use Rattle.contest_http.specs.Head.{has_end}
use Rattle.contest_http.proofs.HeadLemmas.{StillHead}
use Rattle.contest_http.proofs.head.read_head.Given as goal

abbrev pub invariant-loop-reader : goal.invariant-loop-reader
invariant-loop-reader g l = record {
  count : l.fn.reader.faults ≤ l.reader.faults;
  within : length l.bytes.items ≤ REQUEST_HEAD;
  taken : Consumes (g.R.Read.remaining l.fn.reader.inner) (g.R.Read.remaining l.reader.inner) l.bytes.items;
  none : has_end l.bytes.items ≡ false;
  still : StillHead (g.R.Read.remaining l.fn.reader.inner) (g.R.Read.remaining l.reader.inner) l.bytes.items;
}

abbrev pub decreases-loop-reader : goal.decreases-loop-reader
decreases-loop-reader g l = REQUEST_HEAD - length l.bytes.items
