use Rattle.contest_types.proofs.ThawLemmas as lemmas
use Rattle.contest_types.proofs.sight_laws.seen_verdict_is_one_of_two.Goals as goal

pub returns : goal.returns
returns c = lemmas.one_of_two
