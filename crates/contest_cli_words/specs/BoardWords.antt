-- What the words of `board` name.
use Rattle.std.specs.Prelude.{◌≡◌, ◌≢◌, ◌⊎◌, ◌∷◌, ℕ, List, [], Option, Some, None, codes}
use Rattle.std.specs.Option.{option_map}
use Rattle.clap.specs.Simple.{App}
use Rattle.clap.specs.Walk.{Row, Text, first_of}
use Rattle.contest_cli_words.specs.declared.asked_board.BoardFormat.{BoardFormat}
use Rattle.contest_cli_words.specs.declared.asked_board.BoardFormat.TheVariants as format
use Rattle.contest_cli_words.specs.declared.asked_board.Who.{Who}
use Rattle.contest_cli_words.specs.declared.asked_board.Who.TheVariants as who
use Rattle.contest_cli_words.specs.Arguments.{word, option}
use Rattle.contest_cli_words.specs.AskedMoment.{NamesMoment}
use Rattle.contest_cli_words.specs.CommandTable.{command_with}
use Rattle.contest_cli_words.specs.declared.board_words.BoardWords.{BoardWords}

-- the command
unfoldable pub board_app : App
board_app =
    command_with (codes "board") (word (codes "FILE") ∷ option (codes "audience") ∷ option (codes "group") ∷ option (codes "at") ∷ option (codes "format") ∷ [])

-- who is named, anyone where nobody is; the words win over a team's id
abbrev pub NamesWho : Option Text → Who → Type 0
NamesWho text who.Public = (text ≡ None) ⊎ (text ≡ Some (codes "public"))
NamesWho text who.Jury = text ≡ Some (codes "jury")
NamesWho text (who.Team id) = (text ≡ Some id.now) × (id.now ≢ codes "public") × (id.now ≢ codes "jury")

-- the form that is named, text where none is
abbrev pub NamesFormat : Option Text → BoardFormat → Type 0
NamesFormat text format.Text = (text ≡ None) ⊎ (text ≡ Some (codes "text"))
NamesFormat text format.Csv = text ≡ Some (codes "csv")

-- what is said of a form that there isn't
abbrev pub no_format : List ℕ
no_format = codes "error: '--format <FORMAT>' is text or csv\n"

-- the file that keeps the contest, a board and, if they do, its moment
pub record NamesBoard (values : List Row) (named : BoardWords) : Type 0 where
  pub file_is : first_of (codes "FILE") values ≡ Some named.file.now
  pub who_is : NamesWho (first_of (codes "audience") values) named.asked.who
  pub group_is : first_of (codes "group") values ≡ option_map (λ id. id.now) named.asked.group
  pub format_is : NamesFormat (first_of (codes "format") values) named.asked.format
  pub moment_is : NamesMoment (first_of (codes "at") values) named.at
