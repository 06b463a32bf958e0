use Rattle.contest_types.proofs.AddEntry as lemmas
use Rattle.contest_types.proofs.laws.adding_keeps_valid.Goals as goal

pub returns : goal.returns
returns c = lemmas.adding_all
