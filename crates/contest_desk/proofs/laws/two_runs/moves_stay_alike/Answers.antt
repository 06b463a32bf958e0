use Rattle.contest_desk.proofs.MovesAlike as lemmas
use Rattle.contest_desk.proofs.laws.two_runs.moves_stay_alike.Goals as goal

pub returns : goal.returns
returns c = lemmas.moves_stay_alike
