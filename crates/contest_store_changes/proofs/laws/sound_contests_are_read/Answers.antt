use Rattle.contest_store_changes.proofs.SoundReadings.{sound_contests_read_back}
use Rattle.contest_store_changes.proofs.laws.sound_contests_are_read.Goals as goal

pub returns : goal.returns
returns c = sound_contests_read_back
