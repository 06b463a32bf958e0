use Rattle.contest_score.proofs.FirstTeams as lemmas
use Rattle.contest_score.proofs.scoring_laws.first_award_is_of_the_first.Goals as goal

pub returns : goal.returns
returns c = lemmas.first_award_is_of_the_first
