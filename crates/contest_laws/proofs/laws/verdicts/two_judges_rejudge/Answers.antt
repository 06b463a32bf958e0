use Rattle.contest_laws.proofs.VerdictLaws as lemmas
use Rattle.contest_laws.proofs.laws.verdicts.two_judges_rejudge.Goals as goal

pub returns : goal.returns
returns c = lemmas.two_judges_rejudge
