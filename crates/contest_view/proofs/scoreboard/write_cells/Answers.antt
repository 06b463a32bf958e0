use Rattle.std.proofs.Common.{ℕ}
use Rattle.std.specs.List.{zip}
use Rattle.std.proofs.lemmas.Result.{on_ok_weaker}
use Rattle.contest_score.specs.declared.cell.Cell.{Cell}
use Rattle.contest_view.specs.Scoreboards.{cell_data}
use Rattle.contest_objects.proofs.WrittenLemmas.{array_written}
use Rattle.contest_view.proofs.scoreboard.write_cells.Goals as goal

pub returns : goal.returns
returns c =
    on_ok_weaker c.end_array.result
    (array_written (λ (p : ℕ × Cell). cell_data c.args.settings.now p.0 p.1) (zip c.args.columns.now c.args.cells.now) c.in_ok-begin_array.ensures c.in_ok-write_each_cell.ensures)
    c.end_array.ensures
