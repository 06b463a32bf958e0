use Rattle.contest_desk.proofs.QuietSteps as lemmas
use Rattle.contest_desk.proofs.laws.unseen.unseen_step.Goals as goal

pub returns : goal.returns
returns c = lemmas.unnoticed
