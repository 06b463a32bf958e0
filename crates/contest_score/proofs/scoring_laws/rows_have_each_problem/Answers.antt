use Rattle.contest_score.proofs.BoardRows as lemmas
use Rattle.contest_score.proofs.scoring_laws.rows_have_each_problem.Goals as goal

pub returns : goal.returns
returns c = lemmas.rows_have_each_problem
