use Rattle.contest_view.proofs.FileReadLemmas as lemmas
use Rattle.contest_view.proofs.laws.files_alike.Goals as goal

pub returns : goal.returns
returns c = lemmas.files_alike
