use Rattle.contest_desk.proofs.RepeatLemmas as lemmas
use Rattle.contest_desk.proofs.laws.repeats.repeats_once.Goals as goal

pub returns : goal.returns
returns c = lemmas.repeats_once
