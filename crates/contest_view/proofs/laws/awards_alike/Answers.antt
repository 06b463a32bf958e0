use Rattle.contest_view.proofs.AwardReads as lemmas
use Rattle.contest_view.proofs.laws.awards_alike.Goals as goal

pub returns : goal.returns
returns c = lemmas.read_alike
