use Rattle.std.specs.Prelude.{◌≡◌, ◌++◌, take, string_bytes}
use Rattle.std.specs.List.{flat_map}
use Rattle.contest_comparison.specs.Differences.{lone_row_line}
use Rattle.contest_comparison.proofs.differences.push_lone_rows.Given as goal

abbrev pub invariant-loop-other : goal.invariant-loop-other
invariant-loop-other l = string_bytes l.out ≡ string_bytes l.fn.out ++ flat_map (lone_row_line l.settings l.rows) (take l.other-index l.there)
