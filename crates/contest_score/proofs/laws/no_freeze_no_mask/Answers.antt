use Rattle.contest_score.proofs.MaskLemmas as lemmas
use Rattle.contest_score.proofs.laws.no_freeze_no_mask.Goals as goal

pub returns : goal.returns
returns c = lemmas.no_mask
