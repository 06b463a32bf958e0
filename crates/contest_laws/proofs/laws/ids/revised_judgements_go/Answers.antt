use Rattle.contest_laws.proofs.JudgementIdLaws as lemmas
use Rattle.contest_laws.proofs.laws.ids.revised_judgements_go.Goals as goal

pub returns : goal.returns
returns c = lemmas.revised_judgements_go
