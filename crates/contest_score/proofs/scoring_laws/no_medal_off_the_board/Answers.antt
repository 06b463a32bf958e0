use Rattle.contest_score.proofs.MedalTeams as lemmas
use Rattle.contest_score.proofs.scoring_laws.no_medal_off_the_board.Goals as goal

pub returns : goal.returns
returns c = lemmas.no_medal_off_the_board
