use Rattle.contest_types.proofs.RelTimeLemmas.{one_shown}
use Rattle.contest_types.proofs.rel_time.one_time.Goals as goal

pub returns : goal.returns
returns c = one_shown
