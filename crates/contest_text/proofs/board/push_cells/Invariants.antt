use Rattle.std.specs.Prelude.{◌≡◌, ◌++◌, take, string_bytes}
use Rattle.std.specs.List.{flat_map}
use Rattle.contest_score.specs.declared.cell.Cell.{Cell}
use Rattle.contest_text.specs.CellText.{cell_text}
use Rattle.contest_text.specs.BoardText.{right_field}
use Rattle.contest_text.proofs.board.push_cells.Given as goal

abbrev pub invariant-loop-cell : goal.invariant-loop-cell
invariant-loop-cell l = string_bytes l.out ≡ string_bytes l.fn.out ++ flat_map (λ (c : Cell). right_field 9 (cell_text c)) (take l.cell-index l.cells)
