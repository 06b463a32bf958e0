-- What the words of `feed` name.
use Rattle.std.specs.Prelude.{◌≡◌, ◌∷◌, List, [], Some, codes}
use Rattle.clap.specs.Simple.{App}
use Rattle.clap.specs.Walk.{Row, first_of}
use Rattle.contest_cli_words.specs.Arguments.{word, option}
use Rattle.contest_cli_words.specs.AskedMoment.{NamesMoment}
use Rattle.contest_cli_words.specs.BoardWords.{NamesWho}
use Rattle.contest_cli_words.specs.CommandTable.{command_with}
use Rattle.contest_cli_words.specs.declared.feed_words.FeedWords.{FeedWords}

-- the command
unfoldable pub feed_app : App
feed_app = command_with (codes "feed") (word (codes "FILE") ∷ option (codes "audience") ∷ option (codes "at") ∷ [])

-- the file that keeps the contest, whose feed it is and, if they do, its moment
pub record NamesFeed (values : List Row) (named : FeedWords) : Type 0 where
  pub file_is : first_of (codes "FILE") values ≡ Some named.file.now
  pub who_is : NamesWho (first_of (codes "audience") values) named.who
  pub moment_is : NamesMoment (first_of (codes "at") values) named.at
