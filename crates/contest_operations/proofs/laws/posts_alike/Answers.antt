use Rattle.contest_operations.proofs.CommandLemmas as lemmas
use Rattle.contest_operations.proofs.laws.posts_alike.Goals as goal

pub returns : goal.returns
returns c = lemmas.posts_alike
