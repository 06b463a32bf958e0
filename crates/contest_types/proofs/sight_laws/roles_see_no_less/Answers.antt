use Rattle.contest_types.proofs.RoleLemmas as lemmas
use Rattle.contest_types.proofs.sight_laws.roles_see_no_less.Goals as goal

pub returns-clause-submissions : goal.returns-clause-submissions
returns-clause-submissions c = lemmas.sees_no_less

pub returns-clause-clarifications : goal.returns-clause-clarifications
returns-clause-clarifications c = lemmas.hears_no_less

pub returns-clause-verdicts : goal.returns-clause-verdicts
returns-clause-verdicts c = lemmas.keeps_verdicts
