use Rattle.contest_score.proofs.MedalTeams as lemmas
use Rattle.contest_score.proofs.scoring_laws.one_medal_a_team.Goals as goal

pub returns : goal.returns
returns c = lemmas.one_medal_a_team
