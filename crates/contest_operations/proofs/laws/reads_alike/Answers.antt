use Rattle.contest_operations.proofs.LawLemmas as lemmas
use Rattle.contest_operations.proofs.laws.reads_alike.Goals as goal

pub returns : goal.returns
returns c = lemmas.reads_alike
