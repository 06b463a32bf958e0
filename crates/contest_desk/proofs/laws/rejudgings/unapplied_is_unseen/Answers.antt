use Rattle.contest_desk.proofs.RejudgingLemmas as lemmas
use Rattle.contest_desk.proofs.laws.rejudgings.unapplied_is_unseen.Goals as goal

pub returns : goal.returns
returns c = lemmas.unapplied_is_unseen
