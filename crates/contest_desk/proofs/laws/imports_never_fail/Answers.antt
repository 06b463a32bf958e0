use Rattle.contest_desk.proofs.ImportLemmas as lemmas
use Rattle.contest_desk.proofs.laws.imports_never_fail.Goals as goal

pub returns : goal.returns
returns c = lemmas.imports_never_fail
