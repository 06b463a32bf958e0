use Rattle.contest_rules.proofs.OpenedLemmas as lemmas
use Rattle.contest_rules.proofs.laws.opened_is_addable.Goals as goal

pub returns : goal.returns
returns c = lemmas.opened_is_addable
