-- How a command ends that writes a text of a contest: a board, its awards, its results (own).
use Rattle.std.specs.Prelude.{◌≡◌, ◌⊎◌, ℕ, true, List}
use Rattle.std.specs.Io.KnownBytes.{Keeps}
use Rattle.sqlite.specs.State.{HasCleanDisk, State}
use Rattle.contest_types.specs.State.{ContestState}
use Rattle.contest_types.specs.Valid.{is_valid}
use Rattle.contest_lists.specs.Lists.{loaded}
use Rattle.contest_score.specs.CachedCells.{cell_cached}
use Rattle.contest_score.specs.Contest.{contest_cell}
use Rattle.contest_score.specs.declared.cached_cells.CachedCells.{CachedCells}
use Rattle.contest_streams.specs.Streams.{Stream, Tells}
use Rattle.contest_store.specs.Keeping.{Kept, LeavesNoMore}
use Rattle.contest_store_sqlite.specs.Contests.{may_leave_of}
use Rattle.contest_store_sqlite.specs.Opening.{FindsContest, may_leave_filled}
use Rattle.contest_cli_words.specs.CommandErrors.{exit_status_of, line_of}
use Rattle.contest_cli_words.specs.Endings.{Shows}
use Rattle.contest_cli_words.specs.declared.command_error.CommandError.{CommandError}
use Rattle.contest_cli_commands.specs.Printing.{IsStoreStop, StopsOpening}

-- these are the lists and the cells of this valid contest
pub record IsShown (lists : ContestState) (cells : CachedCells) (x : ContestState) : Type 0 where
  pub valid : is_valid x ≡ true
  pub lists_are : lists ≡ loaded x
  pub cells_are : cell_cached cells ≡ (λ mask. contest_cell mask x)

-- where this is a text of a contest, a contest has none for such a cause, and nothing else than this is told of that
module _ (Gives : ContestState → List ℕ → Type 0) (Lacks : ContestState → CommandError → Type 0) (Says : CommandError → Type 0) where
  -- what is told, while the disk is as `clean` says, of some contest which is this one: its text; or, with nothing on
  -- `out`, the status and the line of what stops it
  abbrev pub TellsShown : (clean : Type 0) (Is : ContestState → Type 0) (Stops : CommandError → Type 0) (out_old out_new err_old err_new : Stream) (status : ℕ) → Type 0
  TellsShown clean Is Stops out_old out_new err_old err_new status =
      ((text : List ℕ) × (clean → (x : ContestState) × Is x × Gives x text) × Shows text out_old out_new err_old err_new status)
      ⊎ ((stop : CommandError) × (status ≡ exit_status_of stop) × Tells err_old err_new (line_of stop) × Keeps out_old.bytes out_new.bytes
      × ((exit_status_of stop ≡ 1) ⊎ Says stop) × (clean → Stops stop ⊎ ((x : ContestState) × Is x × Lacks x stop)))

  -- how it ends: what is told is of the valid contest whose lists the tables showed, and a crash leaves no more than it
  -- could before, or that contest with its cells
  pub record ShowsText (out_old out_new err_old err_new : Stream) (old new : State) (status : ℕ) : Type 0 where
    pub told : TellsShown (HasCleanDisk new) (FindsContest old) (StopsOpening old new) out_old out_new err_old err_new status
    pub leaves : HasCleanDisk new → LeavesNoMore (may_leave_filled old) (may_leave_of new)

  -- the same of a contest that a store keeps
  pub record ShowsKept (out_old out_new err_old err_new : Stream) (old new : Kept) (status : ℕ) : Type 0 where
    pub told : TellsShown new.is_clean (λ x. x ≡ old.contest) IsStoreStop out_old out_new err_old err_new status
    pub crash : new.is_clean → LeavesNoMore old.may_leave new.may_leave
    pub clean : new.is_clean → old.is_clean
