use Rattle.contest_score.proofs.AwardsAlike as lemmas
use Rattle.contest_score.proofs.laws.awards_alike.Goals as goal

pub returns : goal.returns
returns c = lemmas.awards_alike
