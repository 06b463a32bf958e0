use Rattle.contest_types.proofs.GroupLemmas as lemmas
use Rattle.contest_types.proofs.sight_laws.group_is_heard_by_its_teams.Goals as goal

pub returns-clause-teams : goal.returns-clause-teams
returns-clause-teams c = lemmas.group_heard

pub returns-clause-public : goal.returns-clause-public
returns-clause-public c = lemmas.public_hears_none
