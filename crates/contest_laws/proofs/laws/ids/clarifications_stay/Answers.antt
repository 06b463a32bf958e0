use Rattle.contest_laws.proofs.ClarificationLaws as lemmas
use Rattle.contest_laws.proofs.laws.ids.clarifications_stay.Goals as goal

pub returns : goal.returns
returns c = lemmas.clarifications_stay
