use Rattle.contest_view.proofs.FileReadLemmas as lemmas
use Rattle.contest_view.proofs.laws.files_are_for_their_teams.Goals as goal

pub returns : goal.returns
returns c = lemmas.files_are_for_their_teams
