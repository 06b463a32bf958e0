use Rattle.contest_types.proofs.HeardWhole as lemmas
use Rattle.contest_types.proofs.laws.one_list_is_heard.Goals as goal

pub returns : goal.returns
returns c = lemmas.one_list
