use Rattle.contest_store_changes.proofs.SettingAdditions.{type_added, language_added, group_added, problem_added, team_added}
use Rattle.contest_store_changes.proofs.laws.new_settings_are_rows.Goals as goal

pub returns-clause-judgement_type : goal.returns-clause-judgement_type
returns-clause-judgement_type c = type_added

pub returns-clause-language : goal.returns-clause-language
returns-clause-language c = language_added

pub returns-clause-group : goal.returns-clause-group
returns-clause-group c = group_added

pub returns-clause-problem : goal.returns-clause-problem
returns-clause-problem c = problem_added

pub returns-clause-team : goal.returns-clause-team
returns-clause-team c = team_added
