use Rattle.contest_score.proofs.MaskLemmas as lemmas
use Rattle.contest_score.proofs.laws.cells_alike.Goals as goal

pub returns : goal.returns
returns c = lemmas.cells_alike
