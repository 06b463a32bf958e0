-- Why a command gives no output, and what is told of it.
use Rattle.std.specs.Prelude.{◌≡◌, ◌≢◌, ◌⊎◌, ℕ, List, [], codes, string_bytes}
use Rattle.clap.specs.Kinds.{Kinds}
use Rattle.contest_types.specs.declared.refusal.Refusal.TheVariants.{BodyTooLarge, Memory}
use Rattle.contest_streams.specs.declared.input.InputFault.{InputFault}
use Rattle.contest_streams.specs.declared.input.InputFault.TheVariants as fault
use Rattle.contest_cli_words.specs.RefusalLine.{refusal_line}
use Rattle.contest_cli_words.specs.declared.command_error.CommandError.{CommandError}
use Rattle.contest_cli_words.specs.declared.command_error.CommandError.TheVariants.{Usage, Refused, File, Clock, Net}

-- the line that tells of it
abbrev pub line_of : CommandError → List ℕ
line_of (Usage text) = string_bytes text
line_of (Refused r) = refusal_line r
line_of File = codes "refused: File\n"
line_of Clock = codes "refused: Clock\n"
line_of Net = codes "refused: Net\n"

-- the program's exit status
abbrev pub exit_status_of : CommandError → ℕ
exit_status_of (Usage text) = 2
exit_status_of (Refused r) = 1
exit_status_of File = 1
exit_status_of Clock = 1
exit_status_of Net = 1

-- memory was refused
abbrev pub IsMemory : CommandError → Type 0
IsMemory stop = stop ≡ Refused Memory

-- the words are refused
abbrev pub IsWords : CommandError → Type 0
IsWords (Usage text) = Unit {0}
IsWords (Refused r) = ⊥
IsWords File = ⊥
IsWords Clock = ⊥
IsWords Net = ⊥

-- the words are refused, or memory was while that was told
abbrev pub IsWordsOrMemory : CommandError → Type 0
IsWordsOrMemory stop = IsMemory stop ⊎ IsWords stop

-- the words are refused with this text
abbrev pub Says : List ℕ → CommandError → Type 0
Says text (Usage said) = string_bytes said ≡ text
Says text (Refused r) = ⊥
Says text File = ⊥
Says text Clock = ⊥
Says text Net = ⊥

-- or memory was refused while that was told
abbrev pub SaysOrMemory : List ℕ → CommandError → Type 0
SaysOrMemory text stop = IsMemory stop ⊎ Says text stop

-- the words are refused, for they have such a fault, or memory was
abbrev pub RefusesWords : Kinds → CommandError → Type 0
RefusesWords faults stop = IsMemory stop ⊎ (IsWords stop × (faults ≢ []))

-- what a fault of the input stops by
abbrev pub stop_of : InputFault → CommandError
stop_of fault.File = File
stop_of fault.TooLarge = Refused BodyTooLarge
stop_of fault.Memory = Refused Memory
