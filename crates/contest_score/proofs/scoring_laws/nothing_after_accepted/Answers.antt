use Rattle.contest_score.proofs.SeenScores as lemmas
use Rattle.contest_score.proofs.scoring_laws.nothing_after_accepted.Goals as goal

pub returns : goal.returns
returns c = lemmas.nothing_after_accepted
