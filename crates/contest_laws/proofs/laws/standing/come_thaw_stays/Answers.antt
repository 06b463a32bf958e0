use Rattle.contest_laws.proofs.StandingLaws as lemmas
use Rattle.contest_laws.proofs.laws.standing.come_thaw_stays.Goals as goal

pub returns : goal.returns
returns c = lemmas.come_thaw_stays
