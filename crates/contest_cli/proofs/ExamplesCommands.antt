-- Worked examples: which command the words name.
use Rattle.std.proofs.Common.{◌≡◌, [], ◌∷◌, None, Some, refl}
use Rattle.std.specs.Prelude.{codes}
use Rattle.contest_cli_words.specs.ServeWords.{requests_of}
use Rattle.contest_cli.specs.Commands.{first_word, invocation_of, unknown_command}
use Rattle.contest_cli.specs.declared.invocation.CommandName.TheVariants.{Replay, Init, Import, Serve}
use Rattle.contest_cli.specs.declared.invocation.Invocation.TheVariants.{Nothing, Help, Version, To, HelpOf, Unknown}

no_words : invocation_of [] ≡ Nothing
no_words = refl

-- help by its name, and by either option
help : invocation_of (codes "help" ∷ []) ≡ Help
help = refl

short_help : invocation_of (codes "-h" ∷ codes "replay" ∷ []) ≡ Help
short_help = refl

replay : invocation_of (codes "replay" ∷ codes "--at" ∷ codes "1:30:00" ∷ []) ≡ To Replay
replay = refl

init : invocation_of (codes "init" ∷ codes "cup.db" ∷ codes "cup.json" ∷ []) ≡ To Init
init = refl

-- of the words after a command's name only a call for help is looked at here
import_of_nothing : invocation_of (codes "import" ∷ []) ≡ To Import
import_of_nothing = refl

-- an option for help is heard wherever it stands
help_of_replay : invocation_of (codes "replay" ∷ codes "--jury" ∷ codes "--help" ∷ []) ≡ HelpOf Replay
help_of_replay = refl

-- and `help` is asked on a command by its name; any other word after it is left aside
help_on_serve : invocation_of (codes "help" ∷ codes "serve" ∷ []) ≡ HelpOf Serve
help_on_serve = refl

help_on_nothing : invocation_of (codes "help" ∷ codes "server" ∷ []) ≡ Help
help_on_nothing = refl

version : invocation_of (codes "--version" ∷ []) ≡ Version
version = refl

-- how many requests are served
seven : requests_of (Some (codes "7")) ≡ Some 7
seven = refl

all_of_them : requests_of (Some (codes "all")) ≡ Some 18_446_744_073_709_551_615
all_of_them = refl

too_many : requests_of (Some (codes "4294967296")) ≡ None
too_many = refl

-- a word is taken as it is
other_case : invocation_of (codes "Replay" ∷ []) ≡ Unknown
other_case = refl

told : unknown_command (first_word (codes "server" ∷ codes "x" ∷ [])) ≡ codes "error: unknown command 'server'; the commands are replay, audit, init, import, board, awards, export, feed, serve, upgrade and help\n"
told = refl
