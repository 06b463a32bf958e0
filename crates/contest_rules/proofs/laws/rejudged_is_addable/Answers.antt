use Rattle.contest_rules.proofs.RejudgedLemmas as lemmas
use Rattle.contest_rules.proofs.laws.rejudged_is_addable.Goals as goal

pub returns : goal.returns
returns c = lemmas.rejudged_is_addable
