use Rattle.contest_laws.proofs.VerdictLaws as lemmas
use Rattle.contest_laws.proofs.laws.verdicts.only_rejudgings_revise.Goals as goal

pub returns : goal.returns
returns c = lemmas.only_rejudgings_revise
