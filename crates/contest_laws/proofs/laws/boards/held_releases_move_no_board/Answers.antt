use Rattle.contest_laws.proofs.StandingLaws as lemmas
use Rattle.contest_laws.proofs.laws.boards.held_releases_move_no_board.Goals as goal

pub returns : goal.returns
returns c = lemmas.held_releases_move_no_board
