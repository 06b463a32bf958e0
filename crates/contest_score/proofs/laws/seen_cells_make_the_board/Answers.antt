use Rattle.std.proofs.Common.{ap}
use Rattle.contest_score.specs.Ranking.{board_rows, is_on_board}
use Rattle.contest_score.proofs.laws.seen_cells_make_the_board.Goals as goal

pub returns : goal.returns
returns c = λ a now group x cells e. ap (board_rows x.fixed.settings (is_on_board x.fixed.settings group)) e
