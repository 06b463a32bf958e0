use Rattle.contest_score.proofs.BoardRows as lemmas
use Rattle.contest_score.proofs.scoring_laws.rows_stand_in_order.Goals as goal

pub returns : goal.returns
returns c = lemmas.rows_stand_in_order
