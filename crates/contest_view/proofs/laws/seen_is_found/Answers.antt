use Rattle.contest_view.proofs.ReadLaws as lemmas
use Rattle.contest_view.proofs.laws.seen_is_found.Goals as goal

pub returns : goal.returns
returns c = lemmas.seen_is_found
