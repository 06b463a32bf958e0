use Rattle.std.proofs.Common.{◌≡◌, ◌≤◌, List, ℕ, length, take}
use Rattle.std.specs.Prelude.{filter, not}
use Rattle.contest_types.specs.Places.{is_among}
use Rattle.contest_feed_reader.specs.IdSets.{IsIdSet}
use Rattle.contest_feed_reader.proofs.left_out.unplaced.Given as goal

abbrev pub invariant-loop-place : goal.invariant-loop-place
invariant-loop-place l = record {
  count : (ids : List (List ℕ)) → IsIdSet l.submissions ids → l.out ≡ length (filter (λ row. not (is_among ids row.object.submission)) (take l.place l.judgements));
  few : l.out ≤ l.place;
}
