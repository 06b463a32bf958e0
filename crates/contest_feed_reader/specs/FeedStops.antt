-- Why no contest is read of a feed.
use Rattle.std.specs.Prelude.{IfSome}
use Rattle.contest_streams.specs.Streams.{Stream, Fails}
use Rattle.contest_files.specs.Refused.{Refuses}
use Rattle.contest_feed_reader.specs.FeedContests.{contest_in_feed}
use Rattle.contest_feed_reader.specs.declared.stream.FeedFault.{FeedFault}
use Rattle.contest_feed_reader.specs.declared.stream.FeedFault.TheVariants.{File, Refused}

-- the reader failed; else memory was refused, or the bytes are, where they are known
abbrev pub StopsFeed : FeedFault → Stream → Stream → Type 0
StopsFeed File old new = Fails old new
StopsFeed (Refused e) old new = IfSome old.bytes (λ bytes. Refuses e (contest_in_feed bytes))
