use Rattle.contest_laws.proofs.JoinLaws as lemmas
use Rattle.contest_laws.proofs.laws.files.imports_join.Goals as goal

pub returns : goal.returns
returns c = lemmas.imports_join
