use Rattle.contest_laws.proofs.CrashLaws as lemmas
use Rattle.contest_laws.proofs.laws.crashes.nothing_is_lost.Goals as goal

pub returns : goal.returns
returns c = lemmas.nothing_is_lost
