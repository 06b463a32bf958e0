use Rattle.contest_rules.proofs.ProposedLemmas as lemmas
use Rattle.contest_rules.proofs.laws.proposed_is_addable.Goals as goal

pub returns : goal.returns
returns c = lemmas.proposed_is_addable
