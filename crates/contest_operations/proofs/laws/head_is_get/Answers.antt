use Rattle.contest_operations.proofs.HeadLemmas as lemmas
use Rattle.contest_operations.proofs.laws.head_is_get.Goals as goal

pub returns : goal.returns
returns c = lemmas.head_is_get
