use Rattle.contest_score.proofs.MaskLemmas as lemmas
use Rattle.contest_score.proofs.laws.own_cells_are_full.Goals as goal

pub returns : goal.returns
returns c = lemmas.own_cell
