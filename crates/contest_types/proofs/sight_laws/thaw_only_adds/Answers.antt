use Rattle.contest_types.proofs.ThawLemmas as lemmas
use Rattle.contest_types.proofs.sight_laws.thaw_only_adds.Goals as goal

pub returns-clause-thawed : goal.returns-clause-thawed
returns-clause-thawed c = lemmas.only_adds

pub returns-clause-set : goal.returns-clause-set
returns-clause-set c = lemmas.thawing_adds
