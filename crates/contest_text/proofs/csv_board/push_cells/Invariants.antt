use Rattle.std.specs.Prelude.{◌≡◌, ◌++◌, [], map, take}
use Rattle.csv.specs.Records.{fields_of, partial_of}
use Rattle.contest_text.specs.CellText.{cell_text}
use Rattle.contest_text.proofs.csv_board.push_cells.Given as goal

abbrev pub invariant-loop-cell : goal.invariant-loop-cell
invariant-loop-cell l = record {
  fields : fields_of l.fields ≡ fields_of l.fn.fields ++ map cell_text (take l.cell-index l.cells);
  whole : partial_of l.fields ≡ [];
}
