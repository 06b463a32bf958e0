use Rattle.contest_laws.proofs.JoinLaws as lemmas
use Rattle.contest_laws.proofs.laws.files.faults_join.Goals as goal

pub returns : goal.returns
returns c = lemmas.faults_join
