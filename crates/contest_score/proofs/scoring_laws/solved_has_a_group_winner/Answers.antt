use Rattle.contest_score.proofs.GroupWinners as lemmas
use Rattle.contest_score.proofs.scoring_laws.solved_has_a_group_winner.Goals as goal

pub returns : goal.returns
returns c = lemmas.solved_has_a_group_winner
