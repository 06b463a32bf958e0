use Rattle.contest_rules.proofs.VerifiedLemmas as lemmas
use Rattle.contest_rules.proofs.laws.verified_is_addable.Goals as goal

pub returns : goal.returns
returns c = lemmas.verified_is_addable
