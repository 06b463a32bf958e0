use Rattle.std.proofs.Common.{◌≡◌, ◌++◌, ℕ, drop, length}
use Rattle.std.specs.List.{flat_map, zip}
use Rattle.contest_score.specs.declared.cell.Cell.{Cell}
use Rattle.contest_objects.specs.JsonTokens.{data_tokens}
use Rattle.contest_view.specs.Scoreboards.{cell_data}
use Rattle.contest_view.proofs.scoreboard.write_each_cell.Given as goal

-- what is written so far, and what is left to write
abbrev pub invariant-loop-problem : goal.invariant-loop-problem
invariant-loop-problem l =
    (l.fn.out.tokens ++ flat_map (λ (p : ℕ × Cell). data_tokens (cell_data l.settings p.0 p.1)) (zip l.columns l.cells)
    ≡ l.out.tokens ++ flat_map (λ (p : ℕ × Cell). data_tokens (cell_data l.settings p.0 p.1)) (zip (drop (length l.yielded) l.columns) (drop (length l.yielded) l.cells)))
    × (l.out.before ≡ l.fn.out.before)
