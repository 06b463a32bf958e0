use Rattle.std.proofs.Common.{◌≡◌, ℕ, length}
use Rattle.contest_score.specs.CachedCells.{cell_in}
use Rattle.contest_score.proofs.cached_cells.make_row.Given as goal

abbrev pub invariant-loop : goal.invariant-loop
invariant-loop l = (length l.rows.items ≡ l.counter) × ((t p : ℕ) → cell_in l.rows.items t p ≡ cell_in l.fn.rows.items t p)
