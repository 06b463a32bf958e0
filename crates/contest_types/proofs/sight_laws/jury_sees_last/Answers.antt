use Rattle.contest_types.proofs.ThawLemmas as lemmas
use Rattle.contest_types.proofs.sight_laws.jury_sees_last.Goals as goal

pub returns : goal.returns
returns c = lemmas.jury_sees_last
