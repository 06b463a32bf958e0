use Rattle.std.specs.Prelude.{◌≡◌, ◌++◌, take}
use Rattle.std.specs.List.{flat_map}
use Rattle.contest_text.specs.BoardCsv.{row_record}
use Rattle.contest_text.proofs.csv_board.push_rows.Given as goal

abbrev pub invariant-loop-row : goal.invariant-loop-row
invariant-loop-row l = l.text.items ≡ l.fn.text.items ++ flat_map (row_record l.settings) (take l.row-index l.rows)
