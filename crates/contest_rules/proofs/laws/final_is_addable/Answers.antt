use Rattle.contest_rules.proofs.ClockLemmas as lemmas
use Rattle.contest_rules.proofs.laws.final_is_addable.Goals as goal

pub returns : goal.returns
returns c = lemmas.final_is_addable
