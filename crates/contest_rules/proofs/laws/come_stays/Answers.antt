use Rattle.contest_rules.proofs.ClockLemmas as lemmas
use Rattle.contest_rules.proofs.laws.come_stays.Goals as goal

pub returns : goal.returns
returns c = lemmas.come_stays
