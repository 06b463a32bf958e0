-- What the words of `init` name.
use Rattle.std.specs.Prelude.{◌≡◌, ◌∷◌, List, [], Some, codes}
use Rattle.clap.specs.Simple.{App}
use Rattle.clap.specs.Walk.{Row, Text, first_of}
use Rattle.contest_cli_words.specs.Arguments.{word}
use Rattle.contest_cli_words.specs.CommandTable.{command_with}
use Rattle.contest_cli_words.specs.declared.init_words.InitWords.{InitWords}

-- the command
unfoldable pub init_app : App
init_app = command_with (codes "init") (word (codes "FILE") ∷ word (codes "CONTEST") ∷ [])

-- the words that have to be there
abbrev pub init_wanted : List Text
init_wanted = codes "FILE" ∷ codes "CONTEST" ∷ []

-- the file that keeps the contest, and the contest's
pub record NamesInit (values : List Row) (named : InitWords) : Type 0 where
  pub file_is : first_of (codes "FILE") values ≡ Some named.file.now
  pub contest_is : first_of (codes "CONTEST") values ≡ Some named.contest.now
