use Rattle.contest_types.proofs.OwnLemmas as lemmas
use Rattle.contest_types.proofs.sight_laws.submissions_stand_by_time.Goals as goal

pub returns : goal.returns
returns c = lemmas.by_time
