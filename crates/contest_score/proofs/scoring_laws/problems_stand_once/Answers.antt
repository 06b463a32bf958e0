use Rattle.contest_score.proofs.BoardRows as lemmas
use Rattle.contest_score.proofs.scoring_laws.problems_stand_once.Goals as goal

pub returns : goal.returns
returns c = lemmas.problems_stand_once
