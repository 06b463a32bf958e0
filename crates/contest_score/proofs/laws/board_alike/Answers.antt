use Rattle.contest_score.proofs.BoardAlike as lemmas
use Rattle.contest_score.proofs.laws.board_alike.Goals as goal

pub returns : goal.returns
returns c = lemmas.board_alike
