use Rattle.std.proofs.Common.{◌≡◌, map, take}
use Rattle.contest_exports.specs.Walks.{numbers_of}
use Rattle.contest_exports.proofs.order.numbers.Given as goal

-- those of the rows so far
abbrev pub invariant-loop-row : goal.invariant-loop-row
invariant-loop-row l = l.all.items ≡ map (λ r. numbers_of r.now) (take l.row-index l.rows)
