use Rattle.contest_import_verdicts.proofs.AgainLemmas as lemmas
use Rattle.contest_import_verdicts.proofs.laws.verdicts_add_nothing_again.Goals as goal

pub returns : goal.returns
returns c = lemmas.verdicts_add_nothing_again
