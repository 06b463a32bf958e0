use Rattle.std.proofs.Common.{◌≡◌, map, take}
use Rattle.std.specs.Prelude.{slice_get}
use Rattle.std.specs.List.{filter_map}
use Rattle.contest_objects.proofs.collection.refs_at.Given as goal

abbrev pub invariant-loop-place : goal.invariant-loop-place
invariant-loop-place g l = map (λ r. r.now) l.refs.items ≡ filter_map (slice_get l.rows) (take l.place-index l.places)
