use Rattle.std.specs.Prelude.{◌≡◌, ◌++◌, take, string_bytes}
use Rattle.std.specs.List.{flat_map}
use Rattle.contest_exports.specs.ResultsTsv.{result_line}
use Rattle.contest_exports.proofs.results.push_results.Given as goal

abbrev pub invariant-loop-row : goal.invariant-loop-row
invariant-loop-row l = string_bytes l.out ≡ string_bytes l.fn.out ++ flat_map (result_line l.settings l.awards) (take l.row-index l.rows)
