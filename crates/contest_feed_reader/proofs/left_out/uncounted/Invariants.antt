use Rattle.std.proofs.Common.{◌≡◌, ◌≤◌, length, take}
use Rattle.std.specs.Prelude.{filter, not}
use Rattle.contest_feed_reader.specs.References.{counts}
use Rattle.contest_feed_reader.proofs.left_out.uncounted.Given as goal

abbrev pub invariant-loop-place : goal.invariant-loop-place
invariant-loop-place l = record {
  count : l.out ≡ length (filter (λ row. not (counts l.duration row)) (take l.place l.submissions));
  few : l.out ≤ l.place;
}
