use Rattle.contest_types.proofs.ReleaseLemmas as lemmas
use Rattle.contest_types.proofs.sight_laws.only_these_show_clarifications.Goals as goal

pub returns : goal.returns
returns c = lemmas.shows_no_clarification
