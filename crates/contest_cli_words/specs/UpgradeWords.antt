-- What the words of `upgrade` name.
use Rattle.std.specs.Prelude.{◌≡◌, ◌∷◌, List, [], Some, codes}
use Rattle.clap.specs.Simple.{App}
use Rattle.clap.specs.Walk.{Row, first_of}
use Rattle.contest_cli_words.specs.Arguments.{word}
use Rattle.contest_cli_words.specs.CommandTable.{command_with}
use Rattle.contest_cli_words.specs.declared.upgrade_words.UpgradeWords.{UpgradeWords}

-- the command
unfoldable pub upgrade_app : App
upgrade_app = command_with (codes "upgrade") (word (codes "FILE") ∷ [])

-- the file that keeps the contest
pub record NamesUpgrade (values : List Row) (named : UpgradeWords) : Type 0 where
  pub file_is : first_of (codes "FILE") values ≡ Some named.file.now
