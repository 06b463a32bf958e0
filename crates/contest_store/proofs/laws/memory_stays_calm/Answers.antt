use Rattle.contest_store.proofs.CalmLemmas.{stays_calm}
use Rattle.contest_store.proofs.laws.memory_stays_calm.Goals as goal

pub returns : goal.returns
returns c = stays_calm
