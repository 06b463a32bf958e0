use Rattle.contest_types.proofs.Times.{one_read, one_printed}
use Rattle.contest_types.proofs.moment.one_moment.Goals as goal

pub returns-clause-read : goal.returns-clause-read
returns-clause-read c = one_read

pub returns-clause-printed : goal.returns-clause-printed
returns-clause-printed c = one_printed
