use Rattle.contest_score.proofs.HiddenTeams as lemmas
use Rattle.contest_score.proofs.scoring_laws.hidden_moves_no_award.Goals as goal

pub returns : goal.returns
returns c = lemmas.hidden_moves_no_award
