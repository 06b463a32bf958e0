use Rattle.contest_score.proofs.BoardRows as lemmas
use Rattle.contest_score.proofs.scoring_laws.no_team_stands_twice.Goals as goal

pub returns : goal.returns
returns c = lemmas.no_team_stands_twice
