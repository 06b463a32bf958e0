use Rattle.contest_laws.proofs.StandingLaws as lemmas
use Rattle.contest_laws.proofs.laws.verdicts.closed_rejudgings_stay.Goals as goal

pub returns : goal.returns
returns c = lemmas.closed_rejudgings_stay
