use Rattle.contest_desk.proofs.QuietSteps as lemmas
use Rattle.contest_desk.proofs.laws.unseen.read_step.Goals as goal

pub returns : goal.returns
returns c = lemmas.read_adds_nothing
