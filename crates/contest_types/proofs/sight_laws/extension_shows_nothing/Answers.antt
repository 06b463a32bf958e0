use Rattle.contest_types.proofs.ExtensionLemmas as lemmas
use Rattle.contest_types.proofs.sight_laws.extension_shows_nothing.Goals as goal

pub returns : goal.returns
returns c = lemmas.extension_shows_nothing
