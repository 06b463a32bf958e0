use Rattle.contest_types.proofs.HeardWhole as lemmas
use Rattle.contest_types.proofs.laws.heard_is_listed.Goals as goal

pub returns : goal.returns
returns c = λ a x valid v. (lemmas.listed_heard a x v, lemmas.heard_listed a x valid v)
