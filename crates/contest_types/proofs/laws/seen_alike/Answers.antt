use Rattle.contest_types.proofs.SightLemmas as lemmas
use Rattle.contest_types.proofs.laws.seen_alike.Goals as goal

pub returns : goal.returns
returns c = lemmas.seen_alike
