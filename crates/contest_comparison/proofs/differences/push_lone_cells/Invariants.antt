use Rattle.std.specs.Prelude.{◌≡◌, ◌++◌, take, string_bytes}
use Rattle.std.specs.List.{flat_map}
use Rattle.contest_comparison.specs.Differences.{lone_cell_line}
use Rattle.contest_comparison.proofs.differences.push_lone_cells.Given as goal

abbrev pub invariant-loop-cell : goal.invariant-loop-cell
invariant-loop-cell l = string_bytes l.out ≡ string_bytes l.fn.out ++ flat_map (lone_cell_line l.settings l.of) (take l.cell-index l.there)
