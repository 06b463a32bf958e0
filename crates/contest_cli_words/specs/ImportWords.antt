-- What the words of `import` name.
use Rattle.std.specs.Prelude.{◌≡◌, ◌∷◌, ◌++◌, ℕ, List, [], Some, codes}
use Rattle.clap.specs.Simple.{App}
use Rattle.clap.specs.Walk.{Row, Text, first_of}
use Rattle.contest_types.specs.ImportKinds.{kind_named}
use Rattle.contest_cli_words.specs.Arguments.{word}
use Rattle.contest_cli_words.specs.CommandTable.{command_with}
use Rattle.contest_cli_words.specs.declared.import_words.ImportWords.{ImportWords}

-- the command
unfoldable pub import_app : App
import_app = command_with (codes "import") (word (codes "FILE") ∷ word (codes "KIND") ∷ word (codes "PATH") ∷ [])

-- the words that have to be there
abbrev pub import_wanted : List Text
import_wanted = codes "FILE" ∷ codes "KIND" ∷ codes "PATH" ∷ []

-- what is said of a word that names no kind
abbrev pub no_kind : Text → List ℕ
no_kind name =
    codes "error: '" ++ name ++ codes "' of '<KIND>' is no kind of file: judgement-types, languages, problems, groups, teams, teams-csv, accounts-csv or verdicts-csv\n"

-- the file that keeps the contest, a kind, and a file of that kind
pub record NamesImport (values : List Row) (named : ImportWords) : Type 0 where
  pub file_is : first_of (codes "FILE") values ≡ Some named.file.now
  pub name : Text
  pub name_is : first_of (codes "KIND") values ≡ Some name
  pub kind_is : kind_named name ≡ Some named.kind
  pub path_is : first_of (codes "PATH") values ≡ Some named.path.now
