use Rattle.contest_score.proofs.SeenScores as lemmas
use Rattle.contest_score.proofs.scoring_laws.all_read_the_jurys_awards.Goals as goal

pub returns : goal.returns
returns c = lemmas.all_read_the_jurys_awards
