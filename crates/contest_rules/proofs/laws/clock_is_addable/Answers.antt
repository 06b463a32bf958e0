use Rattle.contest_rules.proofs.ClockLemmas as lemmas
use Rattle.contest_rules.proofs.laws.clock_is_addable.Goals as goal

pub returns : goal.returns
returns c = lemmas.clock_is_addable
