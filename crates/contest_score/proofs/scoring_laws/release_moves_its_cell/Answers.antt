use Rattle.contest_score.proofs.OneChange as lemmas
use Rattle.contest_score.proofs.scoring_laws.release_moves_its_cell.Goals as goal

pub returns : goal.returns
returns c = lemmas.release_moves_its_cell
