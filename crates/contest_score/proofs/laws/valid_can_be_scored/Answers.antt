use Rattle.contest_score.proofs.ValidLists as lemmas
use Rattle.contest_score.proofs.laws.valid_can_be_scored.Goals as goal

pub returns : goal.returns
returns c = lemmas.valid_can_be_scored
