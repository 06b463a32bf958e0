use Rattle.contest_view.proofs.BoardLaws as lemmas
use Rattle.contest_view.proofs.laws.scoreboard_alike.Goals as goal

pub returns : goal.returns
returns c = lemmas.scoreboard_alike
