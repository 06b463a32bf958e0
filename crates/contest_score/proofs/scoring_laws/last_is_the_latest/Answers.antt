use Rattle.contest_score.proofs.LastMinutes as lemmas
use Rattle.contest_score.proofs.scoring_laws.last_is_the_latest.Goals as goal

pub returns : goal.returns
returns c = lemmas.last_is_the_latest
