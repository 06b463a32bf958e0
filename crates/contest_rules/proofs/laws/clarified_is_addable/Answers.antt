use Rattle.contest_rules.proofs.ClarifiedLemmas as lemmas
use Rattle.contest_rules.proofs.laws.clarified_is_addable.Goals as goal

pub returns : goal.returns
returns c = lemmas.clarified_is_addable
