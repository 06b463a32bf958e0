-- What reading takes from a stream. Words of private functions: nothing public is said with them.
use Rattle.std.specs.Prelude.{◌≡◌, ◌++◌, ℕ, List, Option, IfSome}
use Rattle.std.specs.Io.KnownBytes.{Consumes}
use Rattle.contest_streams.specs.Streams.{Stream, Fails}
use Rattle.contest_files.specs.Refused.{Refuses}
use Rattle.contest_feed_reader.specs.LinesLeft.{tables_left}
use Rattle.contest_feed_reader.specs.Tables.{tables_in}
use Rattle.contest_feed_reader.specs.declared.reading.Reading.{Reading}
use Rattle.contest_feed_reader.specs.declared.stream.FeedFault.{FeedFault}
use Rattle.contest_feed_reader.specs.declared.stream.FeedFault.TheVariants.{File, Refused}

-- the bytes that were taken are read, and no others
pub record Takes (a b : Reading) (old new : Option (List ℕ)) : Type 0 where
  pub taken : List ℕ
  pub consumed : Consumes old new taken
  pub same : (more : List ℕ) → tables_left a (taken ++ more) ≡ tables_left b more

-- why reading stops after what was read: the reader failed, memory was refused, or the bytes that are left are
abbrev pub Stops : FeedFault → Reading → Stream → Stream → Type 0
Stops File r old new = Fails old new
Stops (Refused e) r old new = IfSome old.bytes (λ bytes. Refuses e (tables_left r bytes))

-- the same, where nothing was read before
abbrev pub StopsTables : FeedFault → Stream → Stream → Type 0
StopsTables File old new = Fails old new
StopsTables (Refused e) old new = IfSome old.bytes (λ bytes. Refuses e (tables_in bytes))
