use Rattle.std.proofs.Common.{◌≡◌, ◌∙◌, ap}
use Rattle.contest_score.specs.CachedCells.{cells_seen}
use Rattle.contest_score.specs.Ranking.{board_of, is_on_board}
use Rattle.contest_view.proofs.cells.board_for.Goals as goal

pub returns-in-Ok : goal.returns-in-Ok
returns-in-Ok c = λ x shows.
    (let settings = x.fixed.settings in
    let shown = is_on_board settings c.args.group in
    let made : c.in-Ok.board ≡ board_of settings shown (cells_seen c.cells_for-cells.result) = rw (c.fixed.ensures, shows.lists) at c.in-Ok.ensures.board in
    made ∙ ap (board_of settings shown) (c.cells_for-cells.ensures x shows))
