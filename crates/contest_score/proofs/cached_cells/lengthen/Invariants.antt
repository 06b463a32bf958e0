use Rattle.std.proofs.Common.{◌≡◌, ℕ, None, get_or, length}
use Rattle.contest_score.proofs.cached_cells.lengthen.Given as goal

abbrev pub invariant-loop : goal.invariant-loop
invariant-loop l = (length l.row.items ≡ l.counter) × ((p : ℕ) → get_or l.row.items p None ≡ get_or l.fn.row.items p None)
