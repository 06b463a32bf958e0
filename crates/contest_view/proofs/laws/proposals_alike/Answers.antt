use Rattle.contest_view.proofs.JudgementLaws as lemmas
use Rattle.contest_view.proofs.laws.proposals_alike.Goals as goal

pub returns : goal.returns
returns c = lemmas.proposals_alike
