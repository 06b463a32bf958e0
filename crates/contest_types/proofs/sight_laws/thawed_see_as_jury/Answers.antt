use Rattle.contest_types.proofs.ThawLemmas as lemmas
use Rattle.contest_types.proofs.sight_laws.thawed_see_as_jury.Goals as goal

pub returns : goal.returns
returns c = lemmas.sees_as_jury
