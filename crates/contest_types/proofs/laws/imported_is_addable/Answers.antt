use Rattle.contest_types.proofs.VerdictLemmas as lemmas
use Rattle.contest_types.proofs.laws.imported_is_addable.Goals as goal

pub returns : goal.returns
returns c = lemmas.imported_is_addable
