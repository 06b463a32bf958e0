use Rattle.contest_score.proofs.GroupWinners as lemmas
use Rattle.contest_score.proofs.scoring_laws.groups_stand_once.Goals as goal

pub returns : goal.returns
returns c = lemmas.groups_stand_once
