-- What can't be opened of the machine's files.
use Rattle.std.specs.Prelude.{◌≡◌, ◌⊎◌}
use Rattle.contest_types.specs.declared.refusal.Refusal.TheVariants.{Memory, StoreFault}
use Rattle.contest_cli_words.specs.declared.command_error.CommandError.{CommandError}
use Rattle.contest_cli_words.specs.declared.command_error.CommandError.TheVariants.{File, Refused}

-- an SQLite file that can't be opened, or memory for it was refused
abbrev pub IsNoStore : CommandError → Type 0
IsNoStore stop = (stop ≡ Refused StoreFault) ⊎ (stop ≡ Refused Memory)

-- a file that can't be opened, or memory for it was refused
abbrev pub IsNoFile : CommandError → Type 0
IsNoFile stop = (stop ≡ File) ⊎ (stop ≡ Refused Memory)

-- one of the two files
abbrev pub IsUnopened : CommandError → Type 0
IsUnopened stop = IsNoStore stop ⊎ IsNoFile stop
