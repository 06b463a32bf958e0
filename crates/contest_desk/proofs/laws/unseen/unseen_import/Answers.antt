use Rattle.contest_desk.proofs.ImportLemmas as lemmas
use Rattle.contest_desk.proofs.laws.unseen.unseen_import.Goals as goal

pub returns : goal.returns
returns c = lemmas.unseen_import
