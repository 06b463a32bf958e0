use Rattle.std.proofs.Common.{◌≡◌}
use Rattle.contest_streams.specs.Streams.{stream}
use Rattle.contest_exports.specs.Walks.{given_by, order_in}
use Rattle.contest_exports.proofs.ExportWritten.{WrittenSoFar}
use Rattle.contest_exports.proofs.export.write_rows.Given as goal

-- as many are written as the walk gave
abbrev pub invariant-loop : goal.invariant-loop
invariant-loop g l = record {
  written : WrittenSoFar (g.S.ContestStore.kept l.fn.store) (g.S.ContestStore.kept l.store) (stream g.W.Write.contents l.fn.out) (stream g.W.Write.contents l.out) l.counter;
  order : order_in l.walk ≡ order_in l.fn.walk;
  given : given_by l.walk ≡ l.counter;
}
