use Rattle.contest_types.proofs.MomentLemmas.{text_of_moment}
use Rattle.contest_types.proofs.moment.text_is_counted.Goals as goal

pub returns : goal.returns
returns c = text_of_moment
