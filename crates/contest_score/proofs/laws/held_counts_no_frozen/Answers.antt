use Rattle.contest_score.proofs.MaskLemmas as lemmas
use Rattle.contest_score.proofs.laws.held_counts_no_frozen.Goals as goal

pub returns : goal.returns
returns c = lemmas.held_cell
