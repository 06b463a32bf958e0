use Rattle.contest_types.proofs.ReleaseLemmas as lemmas
use Rattle.contest_types.proofs.sight_laws.judging_shows_nothing.Goals as goal

pub returns : goal.returns
returns c = lemmas.judging_shows_nothing
