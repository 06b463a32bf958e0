use Rattle.contest_desk.proofs.TwoRunLemmas as lemmas
use Rattle.contest_desk.proofs.laws.two_runs.runs_alike.Goals as goal

pub returns : goal.returns
returns c = lemmas.runs_alike
