use Rattle.contest_score.proofs.OneChange as lemmas
use Rattle.contest_score.proofs.scoring_laws.nothing_else_scores.Goals as goal

pub returns : goal.returns
returns c = lemmas.nothing_else_scores
