use Rattle.std.specs.Prelude.{◌≡◌, ◌++◌, take, string_bytes}
use Rattle.std.specs.List.{flat_map}
use Rattle.contest_comparison.specs.Differences.{row_difference}
use Rattle.contest_comparison.proofs.differences.push_rows.Given as goal

abbrev pub invariant-loop-row : goal.invariant-loop-row
invariant-loop-row l = string_bytes l.out ≡ string_bytes l.fn.out ++ flat_map (row_difference l.settings l.board.columns l.there) (take l.row-index l.board.rows)
