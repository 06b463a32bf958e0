use Rattle.contest_rules.proofs.AlikeClarified as lemmas
use Rattle.contest_rules.proofs.laws.alike_clarify_alike.Goals as goal

pub returns : goal.returns
returns c = lemmas.alike_clarify_alike
