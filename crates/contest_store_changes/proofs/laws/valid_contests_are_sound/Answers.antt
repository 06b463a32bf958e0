use Rattle.contest_store_changes.proofs.ValidSound.{listed_rows, listed_sound, valid_sound}
use Rattle.contest_store_changes.proofs.laws.valid_contests_are_sound.Goals as goal

pub returns-clause-rows : goal.returns-clause-rows
returns-clause-rows c = listed_rows

pub returns-clause-whole : goal.returns-clause-whole
returns-clause-whole c = valid_sound

pub returns-clause-listed : goal.returns-clause-listed
returns-clause-listed c = listed_sound
