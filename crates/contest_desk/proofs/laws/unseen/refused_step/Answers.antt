use Rattle.contest_desk.proofs.QuietSteps as lemmas
use Rattle.contest_desk.proofs.laws.unseen.refused_step.Goals as goal

pub returns : goal.returns
returns c = lemmas.refused_adds_nothing
