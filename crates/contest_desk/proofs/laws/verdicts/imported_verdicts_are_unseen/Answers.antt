use Rattle.contest_desk.proofs.VerdictImports as lemmas
use Rattle.contest_desk.proofs.laws.verdicts.imported_verdicts_are_unseen.Goals as goal

pub returns : goal.returns
returns c = lemmas.imported_verdicts_are_unseen
