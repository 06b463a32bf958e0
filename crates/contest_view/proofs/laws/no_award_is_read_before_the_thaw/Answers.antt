use Rattle.contest_view.proofs.AwardReads as lemmas
use Rattle.contest_view.proofs.laws.no_award_is_read_before_the_thaw.Goals as goal

pub returns : goal.returns
returns c = lemmas.none_read
