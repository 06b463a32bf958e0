use Rattle.std.proofs.Common.{◌≡◌, ◌++◌, map, get_or}
use Rattle.std.specs.Prelude.{slice_get}
use Rattle.std.specs.Option.{option_to_list}
use Rattle.contest_objects.proofs.ListingLemmas.{next_shown}
use Rattle.contest_objects.proofs.collection.refs_at.Goals as goal

pub loop-place-preserved : goal.loop-place-preserved
loop-place-preserved g c =
    let more : map (λ r. r.now) c.push_ref.new.refs.items ≡ map (λ r. r.now) c.loop-place.refs.items ++ option_to_list (slice_get c.args.rows.now (get_or c.args.places.now c.loop-place.place-index 0)) = rw c.row_at-row.ensures at c.in_ok-push_ref.ensures in
    next_shown (slice_get c.args.rows.now) c.args.places.now c.loop-place.place-index 0 (map (λ r. r.now) c.loop-place.refs.items) (map (λ r. r.now) c.push_ref.new.refs.items) c.loop-place-test.true c.loop-place.invariant more
