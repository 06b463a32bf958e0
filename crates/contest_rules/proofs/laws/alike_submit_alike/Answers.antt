use Rattle.contest_rules.proofs.SubmittingLemmas.{submit_alike}
use Rattle.contest_rules.proofs.laws.alike_submit_alike.Goals as goal

pub returns : goal.returns
returns c = submit_alike
