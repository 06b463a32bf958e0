use Rattle.contest_desk.proofs.ImportLemmas as lemmas
use Rattle.contest_desk.proofs.laws.imports_keep_valid.Goals as goal

pub returns : goal.returns
returns c = lemmas.imports_keep_valid
