use Rattle.contest_laws.proofs.ComparisonLaws as lemmas
use Rattle.contest_laws.proofs.laws.replays.differences_are_told.Goals as goal

pub returns : goal.returns
returns c = lemmas.differences_are_told
