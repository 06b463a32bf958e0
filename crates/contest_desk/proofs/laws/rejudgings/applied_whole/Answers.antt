use Rattle.contest_desk.proofs.RejudgingLemmas as lemmas
use Rattle.contest_desk.proofs.laws.rejudgings.applied_whole.Goals as goal

pub returns : goal.returns
returns c = lemmas.applied_whole
