use Rattle.std.proofs.Common.{◌≡◌, ◌++◌, map, take}
use Rattle.contest_score.specs.CachedCells.{cell_cached}
use Rattle.contest_store_cells.specs.Listing.{cell_at}
use Rattle.contest_store_cells.proofs.listing.push_cells.Given as goal

-- the cells at the places so far
abbrev pub invariant-loop-team : goal.invariant-loop-team
invariant-loop-team l = l.cells.items ≡ l.fn.cells.items ++ map (cell_at (cell_cached l.kept) l.mask) (take l.team-index l.places)
