use Rattle.contest_score.proofs.OneChange as lemmas
use Rattle.contest_score.proofs.scoring_laws.submission_moves_one_cell.Goals as goal

pub returns : goal.returns
returns c = lemmas.submission_moves_one_cell
