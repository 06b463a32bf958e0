use Rattle.contest_store_changes.proofs.SoundAdditions.{additions_stay_sound}
use Rattle.contest_store_changes.proofs.laws.additions_stay_sound.Goals as goal

pub returns : goal.returns
returns c = additions_stay_sound
