use Rattle.contest_import.proofs.SoundRows.{rows_in_addable}
use Rattle.contest_import.proofs.laws.rows_are_addable.Goals as goal

pub returns : goal.returns
returns c = rows_in_addable c.args.kind
