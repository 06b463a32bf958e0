use Rattle.contest_types.proofs.ThawLemmas as lemmas
use Rattle.contest_types.proofs.sight_laws.moment_changes_verdicts_only.Goals as goal

pub returns : goal.returns
returns c = lemmas.same_submissions
