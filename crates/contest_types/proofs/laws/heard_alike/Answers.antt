use Rattle.contest_types.proofs.SightLemmas as lemmas
use Rattle.contest_types.proofs.laws.heard_alike.Goals as goal

pub returns : goal.returns
returns c = λ a now x y m h. lemmas.heard_alike a x y h
