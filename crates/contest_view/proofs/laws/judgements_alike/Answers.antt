use Rattle.contest_view.proofs.JudgementLaws as lemmas
use Rattle.contest_view.proofs.laws.judgements_alike.Goals as goal

pub returns : goal.returns
returns c = lemmas.judgements_alike
