use Rattle.contest_score.proofs.SeenScores as lemmas
use Rattle.contest_score.proofs.scoring_laws.jurys_board_ignores_the_freeze.Goals as goal

pub returns : goal.returns
returns c = lemmas.jurys_board_ignores_the_freeze
