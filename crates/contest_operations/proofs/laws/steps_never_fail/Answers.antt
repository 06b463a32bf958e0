use Rattle.contest_operations.proofs.NeverFails as lemmas
use Rattle.contest_operations.proofs.laws.steps_never_fail.Goals as goal

pub returns : goal.returns
returns c = lemmas.steps_never_fail
