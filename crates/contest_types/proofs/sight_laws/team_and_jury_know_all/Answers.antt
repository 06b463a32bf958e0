use Rattle.contest_types.proofs.OwnLemmas as lemmas
use Rattle.contest_types.proofs.sight_laws.team_and_jury_know_all.Goals as goal

pub returns : goal.returns
returns c = lemmas.know_all
