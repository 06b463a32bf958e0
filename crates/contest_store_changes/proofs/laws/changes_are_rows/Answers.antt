use Rattle.contest_store_changes.proofs.ChangeLaws.{marks_are_changed, member_is_changed, rejudging_is_changed}
use Rattle.contest_store_changes.proofs.SettingChanges.{digest_is_changed, duration_is_changed, team_name_is_changed}
use Rattle.contest_store_changes.proofs.laws.changes_are_rows.Goals as goal

pub returns-clause-marks : goal.returns-clause-marks
returns-clause-marks c = marks_are_changed

pub returns-clause-duration : goal.returns-clause-duration
returns-clause-duration c = duration_is_changed

pub returns-clause-team_name : goal.returns-clause-team_name
returns-clause-team_name c = team_name_is_changed

pub returns-clause-digest : goal.returns-clause-digest
returns-clause-digest c = digest_is_changed

pub returns-clause-rejudging : goal.returns-clause-rejudging
returns-clause-rejudging c = rejudging_is_changed

pub returns-clause-member : goal.returns-clause-member
returns-clause-member c = member_is_changed
