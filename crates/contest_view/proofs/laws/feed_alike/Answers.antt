use Rattle.contest_view.proofs.FeedLaws as lemmas
use Rattle.contest_view.proofs.laws.feed_alike.Goals as goal

pub returns : goal.returns
returns c = lemmas.feed_alike
