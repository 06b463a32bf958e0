use Rattle.contest_view.proofs.FileReadLemmas as lemmas
use Rattle.contest_view.proofs.laws.placed_file_is_found.Goals as goal

pub returns : goal.returns
returns c = lemmas.placed_file_is_found
