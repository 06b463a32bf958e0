use Rattle.contest_score.proofs.SeenScores as lemmas
use Rattle.contest_score.proofs.scoring_laws.boards_score_the_seen.Goals as goal

pub returns : goal.returns
returns c = lemmas.boards_score_the_seen
