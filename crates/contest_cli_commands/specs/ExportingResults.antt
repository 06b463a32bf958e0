-- How `export` ends where the final results are asked for (own; the file is the Contest Control System Requirements').
use Rattle.std.specs.Prelude.{◌≡◌, ◌≤◌, ◌⊎◌, ℕ, List, Option, Some, None}
use Rattle.std.specs.Option.{option_map}
use Rattle.sqlite.specs.State.{HasCleanDisk, State}
use Rattle.contest_types.specs.State.{ContestState}
use Rattle.contest_types.specs.declared.audience.Audience.TheVariants.{Jury}
use Rattle.contest_types.specs.declared.refusal.Refusal.TheVariants.{NotOpen}
use Rattle.contest_streams.specs.Streams.{Stream}
use Rattle.contest_score.specs.Awards.{shown_awards}
use Rattle.contest_score.specs.Contest.{board_for}
use Rattle.contest_store.specs.Keeping.{LeavesNoMore}
use Rattle.contest_store_sqlite.specs.Contests.{may_leave_of}
use Rattle.contest_store_sqlite.specs.Opening.{FindsContest, may_leave_filled}
use Rattle.contest_exports.specs.ResultsTsv.{results_tsv}
use Rattle.contest_cli_words.specs.declared.command_error.CommandError.{CommandError}
use Rattle.contest_cli_words.specs.declared.command_error.CommandError.TheVariants.{Refused}
use Rattle.contest_cli_commands.specs.Exporting.{TellsWritten}
use Rattle.contest_cli_commands.specs.Printing.{StopsOpening}

-- the results by the jury's board and its awards at a moment
abbrev pub results_at : ContestState → (moment : ℕ) → List ℕ
results_at x moment = results_tsv x.fixed.settings (board_for Jury moment None x) (shown_awards Jury moment x)

-- the results of a contest, as of the moment at which they were made final; nothing where they weren't
abbrev pub results_of : ContestState → Option (List ℕ)
results_of x = option_map (results_at x) x.fixed.marks.finalized

abbrev pub GivesResults : ContestState → List ℕ → Type 0
GivesResults x text = results_of x ≡ Some text

-- no results are written of a contest of which they weren't made final, and nothing else is told of that
abbrev pub LacksResults : ContestState → CommandError → Type 0
LacksResults x stop = (stop ≡ Refused NotOpen) × (x.fixed.marks.finalized ≡ None)

abbrev pub SaysNothingElse : CommandError → Type 0
SaysNothingElse stop = ⊥

-- of some contest which is this one the results weren't made final
abbrev pub HasNoResults : (Is : ContestState → Type 0) → Type 0
HasNoResults Is = (x : ContestState) × Is x × (x.fixed.marks.finalized ≡ None)

-- why nothing is written: for such a cause, or the results weren't made final
abbrev pub StopsResults : (Is : ContestState → Type 0) → (Stops : CommandError → Type 0) → CommandError → Type 0
StopsResults Is Stops stop = Stops stop ⊎ ((stop ≡ Refused NotOpen) × HasNoResults Is)

-- what is told, by the status: as of any text that is written
abbrev pub TellsResults : (clean : Type 0) → (Is : ContestState → Type 0) → (Stops : CommandError → Type 0) → (out_old out_new err_old err_new : Stream) → (status : ℕ) → Type 0
TellsResults clean Is Stops out_old out_new err_old err_new status =
    TellsWritten GivesResults clean Is (λ stop. clean → StopsResults Is Stops stop) out_old out_new err_old err_new status

-- how it ends: what is told is of the valid contest whose lists the tables showed, and a crash leaves no more than it
-- could before, or that contest with its cells
pub record ExportsResults (out_old out_new err_old err_new : Stream) (old new : State) (status : ℕ) : Type 0 where
  pub statuses : status ≤ 1
  pub told : TellsResults (HasCleanDisk new) (FindsContest old) (StopsOpening old new) out_old out_new err_old err_new status
  pub leaves : HasCleanDisk new → LeavesNoMore (may_leave_filled old) (may_leave_of new)
