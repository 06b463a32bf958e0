use Rattle.std.proofs.Common.{◌≡◌, drop}
use Rattle.contest_store_rows.specs.Cells.{lent, same_row}
use Rattle.contest_store_rows.proofs.cells.has_cells.Given as goal

abbrev pub invariant-loop-at : goal.invariant-loop-at
invariant-loop-at l = same_row l.row (lent l.cells) ≡ same_row (drop l.at l.row) (lent (drop l.at l.cells))
