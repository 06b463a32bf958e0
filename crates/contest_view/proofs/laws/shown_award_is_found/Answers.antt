use Rattle.contest_view.proofs.AwardIds as lemmas
use Rattle.contest_view.proofs.laws.shown_award_is_found.Goals as goal

pub returns : goal.returns
returns c = lemmas.shown_is_found
