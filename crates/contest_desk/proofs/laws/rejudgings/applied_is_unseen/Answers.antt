use Rattle.contest_desk.proofs.RejudgingLemmas as lemmas
use Rattle.contest_desk.proofs.laws.rejudgings.applied_is_unseen.Goals as goal

pub returns : goal.returns
returns c = lemmas.applied_is_unseen
