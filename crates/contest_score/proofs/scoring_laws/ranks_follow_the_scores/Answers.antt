use Rattle.contest_score.proofs.BoardRows as lemmas
use Rattle.contest_score.proofs.scoring_laws.ranks_follow_the_scores.Goals as goal

pub returns : goal.returns
returns c = lemmas.ranks_follow_the_scores
