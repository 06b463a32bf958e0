use Rattle.contest_types.proofs.OwnLemmas as lemmas
use Rattle.contest_types.proofs.sight_laws.program_is_for_its_team.Goals as goal

pub returns-clause-shown : goal.returns-clause-shown
returns-clause-shown c = lemmas.program_shown

pub returns-clause-listed : goal.returns-clause-listed
returns-clause-listed c = lemmas.program_listed
