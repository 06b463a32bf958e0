use Rattle.contest_view.proofs.ReadLaws as lemmas
use Rattle.contest_view.proofs.laws.clarifications_alike.Goals as goal

pub returns : goal.returns
returns c = lemmas.clarifications_alike
