use Rattle.contest_streams.specs.Streams.{stream}
use Rattle.contest_objects.specs.EventFeed.{feed_text}
use Rattle.contest_view.specs.Feeds.{feed_events}
use Rattle.contest_view.proofs.FeedLemmas.{none_out}
use Rattle.contest_view.proofs.feed.write_feed.Goals as goal

pub returns-in-Err-clause-written : goal.returns-in-Err-clause-written
returns-in-Err-clause-written g c x shows = none_out (stream g.W.Write.contents c.args.out.now) (feed_text (feed_events c.args.seen.now.audience c.args.seen.now.now x))
