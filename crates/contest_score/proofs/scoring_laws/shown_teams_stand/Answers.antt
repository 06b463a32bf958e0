use Rattle.contest_score.proofs.BoardRows as lemmas
use Rattle.contest_score.proofs.scoring_laws.shown_teams_stand.Goals as goal

pub returns : goal.returns
returns c = lemmas.shown_teams_stand
