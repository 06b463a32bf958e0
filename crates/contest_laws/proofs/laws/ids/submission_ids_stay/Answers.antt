use Rattle.contest_laws.proofs.IdLaws as lemmas
use Rattle.contest_laws.proofs.laws.ids.submission_ids_stay.Goals as goal

pub returns : goal.returns
returns c = lemmas.submission_ids_stay
