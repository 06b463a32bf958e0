use Rattle.contest_types.proofs.IdLemmas.{id_ascii}
use Rattle.contest_types.proofs.id.ids_are_ascii.Goals as goal

pub returns : goal.returns
returns c = id_ascii
