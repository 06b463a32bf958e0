use Rattle.contest_types.proofs.SeenWhole as lemmas
use Rattle.contest_types.proofs.laws.seen_is_listed.Goals as goal

pub returns : goal.returns
returns c = λ a now x valid v. (lemmas.listed_seen a now x v, lemmas.seen_listed a now x valid v)
