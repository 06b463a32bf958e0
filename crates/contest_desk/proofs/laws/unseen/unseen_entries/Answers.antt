use Rattle.contest_desk.proofs.UnseenLemmas as lemmas
use Rattle.contest_desk.proofs.laws.unseen.unseen_entries.Goals as goal

pub returns : goal.returns
returns c = lemmas.unseen_entries
