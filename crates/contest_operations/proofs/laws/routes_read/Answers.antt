use Rattle.contest_operations.proofs.RouteLaw.{routes_read}
use Rattle.contest_operations.proofs.laws.routes_read.Goals as goal

pub returns : goal.returns
returns c = routes_read
