-- What the words of `awards` name.
use Rattle.std.specs.Prelude.{◌≡◌, ◌↔◌, ◌∷◌, List, [], Some, IsTrue, codes}
use Rattle.clap.specs.Simple.{App}
use Rattle.clap.specs.Walk.{Row, first_of}
use Rattle.contest_cli_words.specs.Arguments.{flag, option, word}
use Rattle.contest_cli_words.specs.AskedMoment.{NamesMoment}
use Rattle.contest_cli_words.specs.CommandTable.{command_with}
use Rattle.contest_cli_words.specs.declared.awards_words.AwardsWords.{AwardsWords}

-- the command
unfoldable pub awards_app : App
awards_app = command_with (codes "awards") (word (codes "FILE") ∷ flag (codes "jury") ∷ option (codes "at") ∷ [])

-- the file that keeps the contest, whether the jury looks and, if they do, the moment
pub record NamesAwards (values : List Row) (named : AwardsWords) : Type 0 where
  pub file_is : first_of (codes "FILE") values ≡ Some named.file.now
  pub jury_is : IsTrue named.jury ↔ (first_of (codes "jury") values ≡ Some (codes "true"))
  pub moment_is : NamesMoment (first_of (codes "at") values) named.at
