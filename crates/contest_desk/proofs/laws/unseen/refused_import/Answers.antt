use Rattle.contest_desk.proofs.ImportLemmas as lemmas
use Rattle.contest_desk.proofs.laws.unseen.refused_import.Goals as goal

pub returns : goal.returns
returns c = lemmas.refused_import
