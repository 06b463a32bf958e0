use Rattle.std.proofs.lemmas.Result.{on_ok_weaker}
use Rattle.contest_view.specs.Scoreboards.{row_data}
use Rattle.contest_objects.proofs.WrittenLemmas.{array_written}
use Rattle.contest_view.proofs.scoreboard.write_rows.Goals as goal

pub returns : goal.returns
returns c =
    on_ok_weaker c.end_array.result
    (array_written (row_data c.args.settings.now c.args.columns.now) c.args.rows.now c.in_ok-begin_array.ensures c.in_ok-write_each_row.ensures)
    c.end_array.ensures
