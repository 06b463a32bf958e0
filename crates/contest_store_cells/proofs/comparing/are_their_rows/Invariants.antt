use Rattle.std.proofs.Common.{◌≡◌, map, take}
use Rattle.contest_store_cells.specs.PlacedCells.{placed_row}
use Rattle.contest_store_cells.proofs.comparing.are_their_rows.Given as goal

-- each row so far is that of its cell
abbrev pub invariant-loop-at : goal.invariant-loop-at
invariant-loop-at l = take l.at l.rows ≡ map (placed_row l.settings) (take l.at l.cells)
