use Rattle.contest_score.proofs.BoardRows as lemmas
use Rattle.contest_score.proofs.scoring_laws.ranks_count_the_better.Goals as goal

pub returns : goal.returns
returns c = lemmas.ranks_count_the_better
