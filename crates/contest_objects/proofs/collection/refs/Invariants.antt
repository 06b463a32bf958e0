use Rattle.std.proofs.Common.{◌≡◌, map, take}
use Rattle.contest_objects.proofs.collection.refs.Given as goal

abbrev pub invariant-loop-row : goal.invariant-loop-row
invariant-loop-row g l = map (λ r. r.now) l.refs.items ≡ take l.row-index l.rows
