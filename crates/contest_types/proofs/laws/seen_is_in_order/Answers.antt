use Rattle.contest_types.proofs.SeenWhole as lemmas
use Rattle.contest_types.proofs.laws.seen_is_in_order.Goals as goal

pub returns : goal.returns
returns c = λ a now x. (lemmas.seen_rises a now x, lemmas.heard_rises a x)
