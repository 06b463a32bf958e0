use Rattle.contest_types.proofs.JudgementLemmas as lemmas
use Rattle.contest_types.proofs.sight_laws.seen_judgements_are_listed.Goals as goal

pub returns : goal.returns
returns c = lemmas.listed_judgements
