use Rattle.std.proofs.Common.{length, ◌-◌, ◌≡◌, ◌≤◌, drop, map}
use Rattle.httparse.specs.Spans.{header_bytes}
use Rattle.contest_http.specs.Fields.{has_value}
use Rattle.contest_http.proofs.fields.has_value_in.Given as goal

abbrev pub invariant-loop-at : goal.invariant-loop-at
invariant-loop-at l = record {
  within : l.at ≤ length l.spans;
  same : has_value l.name l.value (map (header_bytes l.head) l.spans) ≡ has_value l.name l.value (map (header_bytes l.head) (drop l.at l.spans));
}

abbrev pub decreases-loop-at : goal.decreases-loop-at
decreases-loop-at l = length l.spans - l.at
