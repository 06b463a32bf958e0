use Rattle.contest_types.proofs.JudgementLemmas as lemmas
use Rattle.contest_types.proofs.sight_laws.alike_show_the_same_judgements.Goals as goal

pub returns : goal.returns
returns c = lemmas.judgements_alike
