use Rattle.contest_laws.proofs.FinalLaws as lemmas
use Rattle.contest_laws.proofs.laws.verdicts.final_results_stay.Goals as goal

pub returns : goal.returns
returns c = lemmas.final_results_stay
