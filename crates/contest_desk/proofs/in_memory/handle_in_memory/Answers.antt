use Rattle.std.proofs.Common.{refl}
use Rattle.contest_desk.proofs.in_memory.handle_in_memory.Goals as goal

pub returns-clause-contest : goal.returns-clause-contest
returns-clause-contest c = c.handle.ensures.leaves.contest tt

pub returns-clause-unchanged : goal.returns-clause-unchanged
returns-clause-unchanged c = c.handle.ensures.leaves.unchanged tt refl

pub returns-clause-isolated : goal.returns-clause-isolated
returns-clause-isolated c = c.handle.ensures.isolated tt
