use Rattle.contest_import_verdicts.proofs.AddableLemmas as lemmas
use Rattle.contest_import_verdicts.proofs.laws.verdicts_are_addable.Goals as goal

pub returns : goal.returns
returns c = lemmas.verdicts_are_addable
