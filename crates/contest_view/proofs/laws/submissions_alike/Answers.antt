use Rattle.contest_view.proofs.ReadLaws as lemmas
use Rattle.contest_view.proofs.laws.submissions_alike.Goals as goal

pub returns : goal.returns
returns c = lemmas.alike_read
