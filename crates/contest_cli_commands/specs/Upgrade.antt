-- How `upgrade` ends (own).
use Rattle.std.specs.Prelude.{◌≡◌, ◌≤◌, ◌⊎◌, ℕ, List, codes}
use Rattle.std.specs.Io.KnownBytes.{Appends, Keeps}
use Rattle.sqlite.specs.State.{HasCleanDisk, State}
use Rattle.contest_streams.specs.Streams.{AppendsFront, Fails, Stream, Tells}
use Rattle.contest_types.specs.State.{ContestState}
use Rattle.contest_store_sqlite.specs.Opening.{IsRead}
use Rattle.contest_store_sqlite.specs.Upgrading.{IsUpgraded, KeepsUpgraded}
use Rattle.contest_cli_words.specs.CommandErrors.{line_of}
use Rattle.contest_cli_words.specs.declared.command_error.CommandError.{CommandError}
use Rattle.contest_cli_words.specs.declared.command_error.CommandError.TheVariants.{File}
use Rattle.contest_cli_commands.specs.Printing.{IsStoreStop}

-- what is told of the schema of today
abbrev pub schema_line : List ℕ
schema_line = codes "schema 2\n"

-- the tables show a valid contest in the schema of today, as it is committed, whose lists they showed before, in the first
-- schema or in that of today
abbrev pub StandsToday : (old new : State) → Type 0
StandsToday old new = IsUpgraded old new ⊎ ((lists : ContestState) × IsRead old new lists)

-- how it ends, by its status: 0 with the schema on `out`; 1 with a line on `err` of the store's fault or of want of memory, or
-- of `out`, which failed and took a front of it. A crash leaves what it could leave before, or the contest that stood, in the
-- schema of today
pub record Upgrades (out_old out_new err_old err_new : Stream) (old new : State) (status : ℕ) : Type 0 where
  pub statuses : status ≤ 1
  pub done : status ≡ 0 → (HasCleanDisk new → StandsToday old new) × Appends out_old.bytes out_new.bytes schema_line × Keeps err_old.bytes err_new.bytes
  pub refused : status ≡ 1 → (stop : CommandError) × Tells err_old err_new (line_of stop)
      × ((IsStoreStop stop × Keeps out_old.bytes out_new.bytes)
      ⊎ ((stop ≡ File) × Fails out_old out_new × AppendsFront out_old.bytes out_new.bytes schema_line × (HasCleanDisk new → StandsToday old new)))
  pub leaves : KeepsUpgraded old new
