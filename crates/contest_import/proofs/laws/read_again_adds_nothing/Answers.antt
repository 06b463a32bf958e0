use Rattle.contest_import.proofs.AgainLemmas.{rows_in_again}
use Rattle.contest_import.proofs.laws.read_again_adds_nothing.Goals as goal

pub returns : goal.returns
returns c = rows_in_again c.args.kind
