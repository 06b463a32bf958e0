-- What the words of `export` name.
use Rattle.std.specs.Prelude.{◌≡◌, ◌⊎◌, ◌∷◌, ℕ, List, [], Option, Some, None, codes}
use Rattle.clap.specs.Simple.{App}
use Rattle.clap.specs.Walk.{Row, Text, first_of}
use Rattle.contest_cli_words.specs.Arguments.{word, option}
use Rattle.contest_cli_words.specs.CommandTable.{command_with}
use Rattle.contest_cli_words.specs.declared.export_words.ExportFormat.{ExportFormat}
use Rattle.contest_cli_words.specs.declared.export_words.ExportFormat.TheVariants as format
use Rattle.contest_cli_words.specs.declared.export_words.ExportWords.{ExportWords}

-- the command
unfoldable pub export_app : App
export_app = command_with (codes "export") (word (codes "FILE") ∷ option (codes "format") ∷ [])

-- the form that is named, CSV where none is
abbrev pub NamesExportFormat : Option Text → ExportFormat → Type 0
NamesExportFormat text format.Csv = (text ≡ None) ⊎ (text ≡ Some (codes "csv"))
NamesExportFormat text format.Icpc = text ≡ Some (codes "icpc")

-- what is said of a form that there isn't
abbrev pub no_export_format : List ℕ
no_export_format = codes "error: '--format <FORMAT>' is csv or icpc\n"

-- the file that keeps the contest, and what is exported
pub record NamesExport (values : List Row) (named : ExportWords) : Type 0 where
  pub file_is : first_of (codes "FILE") values ≡ Some named.file.now
  pub format_is : NamesExportFormat (first_of (codes "format") values) named.format
