use Rattle.contest_desk.proofs.RepeatLemmas as lemmas
use Rattle.contest_desk.proofs.laws.repeats.posts_repeat_once.Goals as goal

pub returns : goal.returns
returns c = lemmas.posts_repeat_once
