use Rattle.contest_laws.proofs.ReplayLaws as lemmas
use Rattle.contest_laws.proofs.laws.replays.replays_are_days.Goals as goal

pub returns : goal.returns
returns c = lemmas.replays_are_days
