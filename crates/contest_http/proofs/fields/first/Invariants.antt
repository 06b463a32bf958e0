use Rattle.std.proofs.Common.{length, ◌-◌, ◌≡◌, ◌≤◌, drop, map}
use Rattle.httparse.specs.Spans.{header_bytes}
use Rattle.contest_http.specs.Fields.{values}
use Rattle.contest_http.proofs.fields.first.Given as goal

abbrev pub invariant-loop-at : goal.invariant-loop-at
invariant-loop-at l = record {
  within : l.at ≤ length l.spans;
  after : l.from ≤ l.at;
  same : values l.name (map (header_bytes l.head) (drop l.from l.spans)) ≡ values l.name (map (header_bytes l.head) (drop l.at l.spans));
}

abbrev pub decreases-loop-at : goal.decreases-loop-at
decreases-loop-at l = length l.spans - l.at
