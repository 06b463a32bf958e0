-- How a feed is written into a stream.
-- What is below `Writes` is a word of private functions: nothing public is said with it.
use Rattle.std.specs.Prelude.{◌≡◌, ℕ, List, Result, Ok, Err}
use Rattle.std.specs.Io.KnownBytes.{Appends}
use Rattle.contest_types.specs.State.{ContestState}
use Rattle.contest_streams.specs.Streams.{AppendsFront, Fails, Stream}
use Rattle.contest_view.specs.SeenLists.{Shows}
use Rattle.contest_view.specs.declared.feed.FeedFault.{FeedFault}
use Rattle.contest_view.specs.declared.feed_objects.FeedCollections.{FeedCollections}
use Rattle.contest_view.specs.declared.feed.FeedFault.TheVariants.{Write, Memory}

-- where the stream is the cause, it failed
abbrev pub FailsIfWrite : Result (Unit {0}) FeedFault → (old new : Stream) → Type 0
FailsIfWrite (Ok done) old new = Unit {0}
FailsIfWrite (Err Write) old new = Fails old new
FailsIfWrite (Err Memory) old new = Unit {0}

-- all of the text is out, or a front of it
abbrev pub Writes : Result (Unit {0}) FeedFault → (old new : Stream) → List ℕ → Type 0
Writes (Ok done) old new text = Appends old.bytes new.bytes text
Writes (Err fault) old new text = AppendsFront old.bytes new.bytes text

-- the collections of a feed are those of this contest, as an audience sees it
pub record AreShown (c : FeedCollections) (x : ContestState) : Type 0 where
  pub shows : Shows c.submissions.seen.now x
  pub judgements : c.judgements.seen.now ≡ c.submissions.seen.now
  pub clarifications : c.clarifications.seen.now ≡ c.submissions.seen.now
  pub teams : c.teams.settings.now ≡ x.fixed.settings
  pub awards : c.awards.settings.now ≡ x.fixed.settings
