use Rattle.contest_laws.proofs.JudgementIdLaws as lemmas
use Rattle.contest_laws.proofs.laws.ids.served_judgements_stay.Goals as goal

pub returns : goal.returns
returns c = lemmas.served_judgements_stay
