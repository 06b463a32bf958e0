use Rattle.contest_http.proofs.ServeLemmas.{one_spelling}
use Rattle.contest_http.proofs.laws.one_spelling.Goals as goal

pub returns : goal.returns
returns c = one_spelling
