use Rattle.contest_score.proofs.MaskLemmas as lemmas
use Rattle.contest_score.proofs.laws.what_counts.Goals as goal

pub returns : goal.returns
returns c = lemmas.what_counts
