use Rattle.contest_types.proofs.SeenWhole as lemmas
use Rattle.contest_types.proofs.laws.one_list_is_seen.Goals as goal

pub returns : goal.returns
returns c = lemmas.one_list
