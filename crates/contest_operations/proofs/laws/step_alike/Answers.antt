use Rattle.contest_operations.proofs.LawLemmas as lemmas
use Rattle.contest_operations.proofs.laws.step_alike.Goals as goal

pub returns : goal.returns
returns c = lemmas.step_alike
