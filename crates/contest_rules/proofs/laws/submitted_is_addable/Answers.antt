use Rattle.contest_rules.proofs.TakenLemmas.{submitted_is_addable}
use Rattle.contest_rules.proofs.laws.submitted_is_addable.Goals as goal

pub returns : goal.returns
returns c = submitted_is_addable
