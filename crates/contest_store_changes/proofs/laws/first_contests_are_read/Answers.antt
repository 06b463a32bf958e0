use Rattle.contest_store_changes.proofs.UpgradedTables.{first_contests_sound, first_rows_read_back}
use Rattle.contest_store_changes.proofs.laws.first_contests_are_read.Goals as goal

pub returns-clause-read : goal.returns-clause-read
returns-clause-read c = first_rows_read_back

pub returns-clause-sound : goal.returns-clause-sound
returns-clause-sound c = first_contests_sound
