-- How `export` ends (own).
use Rattle.std.specs.Prelude.{◌≡◌, ◌≤◌, ◌⊎◌, ℕ, List}
use Rattle.std.specs.Io.KnownBytes.{Appends, Keeps}
use Rattle.sqlite.specs.State.{HasCleanDisk, State}
use Rattle.contest_types.specs.State.{ContestState}
use Rattle.contest_streams.specs.Streams.{AppendsFront, Failed, Fails, Stream, Tells}
use Rattle.contest_store.specs.Keeping.{Kept, LeavesNoMore}
use Rattle.contest_store_sqlite.specs.Contests.{may_leave_of}
use Rattle.contest_store_sqlite.specs.Opening.{FindsContest, may_leave_filled}
use Rattle.contest_exports.specs.SubmissionsCsv.{submissions_csv}
use Rattle.contest_types.specs.declared.refusal.Refusal.TheVariants.{Memory, StoreFault}
use Rattle.contest_cli_words.specs.CommandErrors.{line_of}
use Rattle.contest_cli_words.specs.declared.command_error.CommandError.{CommandError}
use Rattle.contest_cli_words.specs.declared.command_error.CommandError.TheVariants.{File, Refused}
use Rattle.contest_cli_commands.specs.Printing.{StopsOpening}

-- where this is a text that is written of a contest
module _ (Gives : ContestState → List ℕ → Type 0) where
  -- `out` has that of some contest which is this one, or a front of it
  abbrev pub PutsOut : (Is : ContestState → Type 0) → (old new : Stream) → Type 0
  PutsOut Is old new = (x : ContestState) × Is x × (text : List ℕ) × Gives x text × Appends old.bytes new.bytes text

  abbrev pub PutsFront : (Is : ContestState → Type 0) → (old new : Stream) → Type 0
  PutsFront Is old new = (x : ContestState) × Is x × (text : List ℕ) × Gives x text × AppendsFront old.bytes new.bytes text

  -- what is told, by the status, while the disk is as `clean` says: 0 with the whole text on `out`; 1 with a line on `err` of
  -- what stops it, as the store's fault, or of `out`, which failed. Nothing is out then, or a front of the text
  pub record TellsWritten (clean : Type 0) (Is : ContestState → Type 0) (Stops : CommandError → Type 0) (out_old out_new err_old err_new : Stream) (status : ℕ) : Type 0 where
    pub done : status ≡ 0 → (clean → PutsOut Is out_old out_new) × Keeps err_old.bytes err_new.bytes
    pub refused : status ≡ 1 → (stop : CommandError) × Tells err_old err_new (line_of stop)
        × (Stops stop ⊎ ((stop ≡ File) × Fails out_old out_new))
        × (Keeps out_old.bytes out_new.bytes ⊎ (clean → PutsFront Is out_old out_new))

-- the submissions of a contest
abbrev pub GivesSubmissions : ContestState → List ℕ → Type 0
GivesSubmissions x text = text ≡ submissions_csv x

-- how it ends: what is told is of the valid contest whose lists the tables showed, and a crash leaves no more than it
-- could before, or that contest with its cells
pub record Exports (out_old out_new err_old err_new : Stream) (old new : State) (status : ℕ) : Type 0 where
  pub statuses : status ≤ 1
  pub told : TellsWritten GivesSubmissions (HasCleanDisk new) (FindsContest old) (StopsOpening old new) out_old out_new err_old err_new status
  pub leaves : HasCleanDisk new → LeavesNoMore (may_leave_filled old) (may_leave_of new)

-- the store failed, by its own count, or memory was refused
abbrev pub StopsKept : (old new : Kept) → CommandError → Type 0
StopsKept old new stop = ((stop ≡ Refused StoreFault) × Failed old.faults new.faults) ⊎ (stop ≡ Refused Memory)

-- the same of a contest that a store keeps
pub record ExportsKept (out_old out_new err_old err_new : Stream) (old new : Kept) (status : ℕ) : Type 0 where
  pub statuses : status ≤ 1
  pub told : TellsWritten GivesSubmissions new.is_clean (λ x. x ≡ old.contest) (StopsKept old new) out_old out_new err_old err_new status
  pub crash : new.is_clean → LeavesNoMore old.may_leave new.may_leave
  pub clean : new.is_clean → old.is_clean
