use Rattle.contest_view.proofs.ReadLaws as lemmas
use Rattle.contest_view.proofs.laws.nothing_else_is_found.Goals as goal

pub returns : goal.returns
returns c = lemmas.nothing_else
