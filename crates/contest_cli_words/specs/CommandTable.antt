-- A command as data, and what its words name.
use Rattle.std.specs.Prelude.{◌≡◌, ◌⊎◌, ◌&&◌, ◌∷◌, Bool, true, List, [], is_some, map, codes}
use Rattle.std.specs.List.{list_all}
use Rattle.clap.specs.Faults.{is_simple_and_free}
use Rattle.clap.specs.Simple.{App, new_shape}
use Rattle.clap.specs.Walk.{Row, Rule, Text, first_of}
use Rattle.contest_cli_words.specs.Arguments.{faults_in, flag, option, rows_in, wants_word, word}
use Rattle.contest_cli_words.specs.CommandErrors.{IsMemory, IsWords}
use Rattle.contest_cli_words.specs.declared.command_error.CommandError.{CommandError}
use Rattle.contest_cli_words.specs.declared.command_table.CommandTable.{CommandTable}
use Rattle.contest_cli_words.specs.declared.command_table.WordKind.{WordKind}
use Rattle.contest_cli_words.specs.declared.command_table.WordKind.TheVariants as kind
use Rattle.contest_cli_words.specs.declared.command_table.WordRow.{WordRow}

-- a command of this name, with these words, flags and options
abbrev pub command_with : (name : Text) → List Rule → App
command_with name rules = record { top = record (new_shape name) { rules = rules }; subs = [] }

abbrev pub rule_as : WordKind → Text → Rule
rule_as kind.Word name = word name
rule_as kind.Flag name = flag name
rule_as (kind.Option value) name = option name

abbrev pub rule_by : WordRow → Rule
rule_by row = rule_as row.kind row.name.now

-- the command that a table is of
abbrev pub app_in : CommandTable → App
app_in table = command_with table.name.now (map rule_by table.rows.now)

-- each of these words has a value
abbrev pub HasWords : (names : List Text) → List Row → Type 0
HasWords [] values = Unit {0}
HasWords (name ∷ names) values = (is_some (first_of name values) ≡ true) × HasWords names values

-- the file that keeps the contest has to be there, and no other word
abbrev pub only_file : List Text
only_file = codes "FILE" ∷ []

-- the command wants each of these words, and its words alone say what it is asked for
abbrev pub wants_words : (names : List Text) → App → Bool
wants_words names app = is_simple_and_free app && list_all (λ name. wants_word name app) names

-- what it is that values name is some Is
module _ {A : Type 0} (Is : List Row → A → Type 0) where
  -- they name nothing
  abbrev pub NamesNothing : List Row → Type 0
  NamesNothing values = (a : A) → Is values a → ⊥

  -- why what they name isn't had: they name nothing, or memory was refused
  abbrev pub StopsNaming : List Row → CommandError → Type 0
  StopsNaming values stop = IsMemory stop ⊎ (IsWords stop × NamesNothing values)

  -- the words have no fault, and their values name this
  abbrev pub Names : App → (words : List Text) → A → Type 0
  Names app words a = (faults_in app words ≡ []) × Is (rows_in app words) a

  -- the words have a fault, or their values name nothing
  abbrev pub HasFault : App → (words : List Text) → Type 0
  HasFault app words = (a : A) → Names app words a → ⊥
