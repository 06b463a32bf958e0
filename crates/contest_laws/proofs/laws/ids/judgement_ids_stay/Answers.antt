use Rattle.contest_laws.proofs.JudgementIdLaws as lemmas
use Rattle.contest_laws.proofs.laws.ids.judgement_ids_stay.Goals as goal

pub returns : goal.returns
returns c = lemmas.judgement_ids_stay
