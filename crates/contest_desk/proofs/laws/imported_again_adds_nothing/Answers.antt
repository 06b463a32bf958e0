use Rattle.contest_desk.proofs.ImportedAgain.{imported_again}
use Rattle.contest_desk.proofs.laws.imported_again_adds_nothing.Goals as goal

pub returns : goal.returns
returns c = imported_again
