use Rattle.contest_score.proofs.FirstTeams as lemmas
use Rattle.contest_score.proofs.scoring_laws.solved_has_a_first.Goals as goal

pub returns : goal.returns
returns c = lemmas.solved_has_a_first
