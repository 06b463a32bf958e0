use Rattle.contest_rules.proofs.AppliedLemmas as lemmas
use Rattle.contest_rules.proofs.laws.applied_is_addable.Goals as goal

pub returns : goal.returns
returns c = lemmas.applied_is_addable
