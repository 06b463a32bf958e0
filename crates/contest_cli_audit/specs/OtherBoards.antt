-- The scoreboard of another system that a board is held beside, in a file that the words name.
use Rattle.std.specs.Prelude.{◌≡◌, ◌⊎◌, ℕ, List, Option, Some, None, IfSome, Result, Ok, Err, length, nat_lt, if◌then◌else◌}
use Rattle.clap.specs.Walk.{Text}
use Rattle.contest_types.specs.declared.limits.TheConstants.{IMPORTED_FILE}
use Rattle.contest_types.specs.declared.refusal.Refusal.{Refusal}
use Rattle.contest_types.specs.declared.refusal.Refusal.TheVariants.{BodyTooLarge, Malformed, Memory}
use Rattle.contest_streams.specs.Streams.{Counting, Fails, Stream, stream}
use Rattle.contest_cli_machine.specs.Unopened.{IsNoFile}
use Rattle.contest_comparison.specs.Scoreboards.{scoreboard_of}
use Rattle.contest_comparison.specs.declared.other_row.OtherRow.{OtherRow}
use Rattle.contest_cli_words.specs.declared.command_error.CommandError.{CommandError}
use Rattle.contest_cli_words.specs.declared.command_error.CommandError.TheVariants.{Usage, Refused, File, Clock, Net}

abbrev pub or_malformed : {A : Type 0} → Option A → Result A Refusal
or_malformed None = Err Malformed
or_malformed (Some a) = Ok a

-- the rows of the scoreboard that a file of these bytes holds, or why it is refused
abbrev pub scoreboard_in : List ℕ → Result (List OtherRow) Refusal
scoreboard_in bytes = if nat_lt IMPORTED_FILE (length bytes) then Err BodyTooLarge else or_malformed (scoreboard_of bytes)

-- why no scoreboard is read of a file: memory or what it holds is refused, or a read failed
abbrev pub StopsScoreboard : (old new : Stream) → CommandError → Type 0
StopsScoreboard old new (Usage text) = ⊥
StopsScoreboard old new (Refused r) = (r ≡ Memory) ⊎ IfSome old.bytes (λ bytes. scoreboard_in bytes ≡ Err r)
StopsScoreboard old new File = Fails old new
StopsScoreboard old new Clock = ⊥
StopsScoreboard old new Net = ⊥

-- on a machine whose files have this left to read, where this comes of opening one
module _ {F : Type 0} (remaining : F → Option (List ℕ)) (Reads : List ℕ → Result (Counting F) CommandError → Type 0) where
  -- these are the rows of the scoreboard at a path, where its bytes are known; there are none without a path
  abbrev pub Holds : (path : Option Text) → Option (List OtherRow) → Type 0
  Holds None None = Unit {0}
  Holds None (Some rows) = ⊥
  Holds (Some path) None = ⊥
  Holds (Some path) (Some rows) =
      (file : Counting F) × Reads path (Ok file) × IfSome (remaining file.inner) (λ bytes. scoreboard_in bytes ≡ Ok rows)

  -- why the scoreboard at a path can't be had: the file can't be opened, or none is read of it
  abbrev pub Lacks : (path : Option Text) → CommandError → Type 0
  Lacks None stop = ⊥
  Lacks (Some path) stop =
      (IsNoFile stop × Reads path (Err stop)) ⊎ ((file : Counting F) × Reads path (Ok file) × (left : Stream) × StopsScoreboard (stream remaining file) left stop)
