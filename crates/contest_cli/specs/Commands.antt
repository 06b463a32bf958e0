-- Which command the words name, and what is told where they name none or ask for help.
use Rattle.std.specs.Prelude.{◌≡◌, ◌⊎◌, ℕ, Bool, List, [], ◌∷◌, ◌++◌, Option, Some, None, codes, ◌||◌, if◌then◌else◌}
use Rattle.std.specs.Io.KnownBytes.{Keeps}
use Rattle.std.specs.List.{list_any}
use Rattle.std.specs.Str.{bytes_eq}
use Rattle.clap.specs.Walk.{Text}
use Rattle.contest_streams.specs.Streams.{Stream}
use Rattle.contest_cli_words.specs.Endings.{TellsWords}
use Rattle.contest_cli_words.specs.Help.{is_help}
use Rattle.contest_cli.specs.declared.invocation.CommandName.{CommandName}
use Rattle.contest_cli.specs.declared.invocation.CommandName.TheVariants.{Replay, Audit, Init, Import, Board, Awards, Export, Feed, Serve, Upgrade}
use Rattle.contest_cli.specs.declared.invocation.Invocation.{Invocation}
use Rattle.contest_cli.specs.declared.invocation.Invocation.TheVariants.{Nothing, Help, Version, To, HelpOf, Unknown}

-- the command that a word names
abbrev pub command_named : Text → Option CommandName
command_named word =
    if bytes_eq word (codes "replay") then Some Replay
    else (if bytes_eq word (codes "audit") then Some Audit
    else (if bytes_eq word (codes "init") then Some Init
    else (if bytes_eq word (codes "import") then Some Import
    else (if bytes_eq word (codes "board") then Some Board
    else (if bytes_eq word (codes "awards") then Some Awards
    else (if bytes_eq word (codes "export") then Some Export
    else (if bytes_eq word (codes "feed") then Some Feed
    else (if bytes_eq word (codes "serve") then Some Serve
    else (if bytes_eq word (codes "upgrade") then Some Upgrade else None)))))))))

-- what a command is asked for by its options
abbrev pub asked_of : CommandName → List Text → Invocation
asked_of command options = if list_any is_help options then HelpOf command else To command

abbrev pub asked_of_named : Option CommandName → List Text → Invocation
asked_of_named None options = Unknown
asked_of_named (Some command) options = asked_of command options

-- what `help` is asked for: the help of the command that the next word names, else the program's
abbrev pub help_on_named : Option CommandName → Invocation
help_on_named None = Help
help_on_named (Some command) = HelpOf command

abbrev pub help_on : List Text → Invocation
help_on [] = Help
help_on (name ∷ more) = help_on_named (command_named name)

-- an option asks for the version
abbrev pub is_version : Text → Bool
is_version word = bytes_eq word (codes "--version") || bytes_eq word (codes "-V")

-- what the words ask for, by the first of them
abbrev pub invocation_of : List Text → Invocation
invocation_of [] = Nothing
invocation_of (name ∷ options) =
    if bytes_eq name (codes "help") then help_on options
    else (if is_help name then Help else (if is_version name then Version else asked_of_named (command_named name) options))

-- what is shown of the version: the program's, and the kit and the logic that proved it
abbrev pub version_text : List ℕ
version_text = codes "desk 1.1.0, proved by rattle-kit-13f logic dac8208d650f15bf\n"

-- the words name no command
abbrev pub NamesNone : List Text → Type 0
NamesNone words = (invocation_of words ≡ Nothing) ⊎ (invocation_of words ≡ Unknown)

-- the words ask for help: the program's, or that of a command
abbrev pub AsksHelp : List Text → Type 0
AsksHelp words = (invocation_of words ≡ Help) ⊎ ((command : CommandName) × (invocation_of words ≡ HelpOf command))

-- what is said of a command that there isn't
abbrev pub unknown_command : Text → List ℕ
unknown_command name = codes "error: unknown command '" ++ name ++ codes "'; the commands are replay, audit, init, import, board, awards, export, feed, serve, upgrade and help\n"

-- the first of the words, empty where there is none
abbrev pub first_word : List Text → Text
first_word [] = []
first_word (name ∷ options) = name

-- a command that there isn't is told by its name, and `out` keeps what it had
abbrev pub TellsUnknown : List Text → (out_old out_new err_old err_new : Stream) → (status : ℕ) → Type 0
TellsUnknown words out_old out_new err_old err_new status =
    TellsWords (unknown_command (first_word words)) err_old err_new status × Keeps out_old.bytes out_new.bytes

-- where there are no words some text is told, and `out` keeps what it had
abbrev pub TellsNone : (out_old out_new err_old err_new : Stream) → (status : ℕ) → Type 0
TellsNone out_old out_new err_old err_new status =
    ((text : List ℕ) × TellsWords text err_old err_new status) × Keeps out_old.bytes out_new.bytes
