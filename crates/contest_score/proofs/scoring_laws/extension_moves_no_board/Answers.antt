use Rattle.contest_score.proofs.OneChange as lemmas
use Rattle.contest_score.proofs.scoring_laws.extension_moves_no_board.Goals as goal

pub returns : goal.returns
returns c = lemmas.extension_moves_no_board
