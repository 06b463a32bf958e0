use Rattle.contest_desk.proofs.RepeatLemmas as lemmas
use Rattle.contest_desk.proofs.laws.repeats.runs_grow.Goals as goal

pub returns : goal.returns
returns c = lemmas.runs_grow
