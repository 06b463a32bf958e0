use Rattle.std.proofs.Common.{◌≡◌, ◌++◌, ℕ, drop, length, string_bytes}
use Rattle.std.specs.List.{flat_map, zip}
use Rattle.contest_score.specs.declared.cell.Cell.{Cell}
use Rattle.contest_comparison.specs.Differences.{problem_lines}
use Rattle.contest_comparison.proofs.differences.push_cells.Given as goal

-- what is pushed so far, and what is left to push
abbrev pub invariant-loop-problem : goal.invariant-loop-problem
invariant-loop-problem l =
    string_bytes l.fn.out ++ flat_map (λ (p : ℕ × Cell). problem_lines l.settings l.of l.there p.0 p.1) (zip l.columns l.cells)
    ≡ string_bytes l.out ++ flat_map (λ (p : ℕ × Cell). problem_lines l.settings l.of l.there p.0 p.1) (zip (drop (length l.yielded) l.columns) (drop (length l.yielded) l.cells))
