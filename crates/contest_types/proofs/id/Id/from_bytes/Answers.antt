use Rattle.std.proofs.Common.{sym}
use Rattle.contest_types.proofs.IdLemmas.{no_id}
use Rattle.contest_types.proofs.id.Id.from_bytes.Goals as goal

pub returns-in-Err-clause-value : goal.returns-in-Err-clause-value
returns-in-Err-clause-value c = sym (no_id c.args.bytes.now c.in-Err.ensures.cases.0)
