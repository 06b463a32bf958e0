use Rattle.contest_operations.proofs.LawLemmas as lemmas
use Rattle.contest_operations.proofs.laws.steps_keep_valid.Goals as goal

pub returns : goal.returns
returns c = lemmas.steps_keep_valid
