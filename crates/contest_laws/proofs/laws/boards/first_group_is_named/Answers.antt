use Rattle.contest_laws.proofs.GroupNameLaws as lemmas
use Rattle.contest_laws.proofs.laws.boards.first_group_is_named.Goals as goal

pub returns : goal.returns
returns c = lemmas.first_group_is_named
