use Rattle.contest_desk.proofs.UnseenLemmas as lemmas
use Rattle.contest_desk.proofs.laws.unseen.unseen_entry.Goals as goal

pub returns : goal.returns
returns c = lemmas.unseen_entry
