use Rattle.contest_score.proofs.SeenScores as lemmas
use Rattle.contest_score.proofs.scoring_laws.cells_score_the_seen.Goals as goal

pub returns : goal.returns
returns c = lemmas.cells_score_the_seen
