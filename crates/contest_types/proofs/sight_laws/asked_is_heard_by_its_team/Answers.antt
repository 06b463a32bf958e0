use Rattle.contest_types.proofs.OwnLemmas as lemmas
use Rattle.contest_types.proofs.sight_laws.asked_is_heard_by_its_team.Goals as goal

pub returns : goal.returns
returns c = lemmas.asked_heard
