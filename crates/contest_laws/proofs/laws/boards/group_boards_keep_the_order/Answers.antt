use Rattle.contest_laws.proofs.GroupLaws as lemmas
use Rattle.contest_laws.proofs.laws.boards.group_boards_keep_the_order.Goals as goal

pub returns : goal.returns
returns c = lemmas.group_boards_keep_the_order
