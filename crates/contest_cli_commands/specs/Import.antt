-- How `import` ends, and what it leaves (own).
use Rattle.std.specs.Prelude.{◌≡◌, ◌≤◌, ◌⊎◌, ◌++◌, ℕ, List, Option, Some, Result, Ok, Err, IsTrue, codes}
use Rattle.std.specs.Fmt.{decimal}
use Rattle.std.specs.Io.KnownBytes.{Appends, Keeps}
use Rattle.sqlite.specs.State.{HasCleanDisk, State}
use Rattle.contest_types.specs.State.{ContestState}
use Rattle.contest_streams.specs.Streams.{AppendsFront, Fails, Stream, Tells}
use Rattle.contest_types.specs.declared.refusal.Refusal.{Refusal}
use Rattle.contest_types.specs.declared.refusal.Refusal.TheVariants.{BodyTooLarge, Memory, OldSchema, StoreFault}
use Rattle.contest_store.specs.Keeping.{LeavesNoMore, LeavesOnly}
use Rattle.contest_types.specs.declared.import_kind.ImportKind.{ImportKind}
use Rattle.contest_desk.specs.Imports.{import_step}
use Rattle.contest_store_sqlite.specs.Contests.{may_leave_of}
use Rattle.contest_store_sqlite.specs.Creation.{KeepsLists}
use Rattle.contest_store_sqlite.specs.Opening.{FindsContest, FindsFirst, may_leave_filled}
use Rattle.contest_cli_commands.specs.Inputs.{IsTooLarge, WasRead}
use Rattle.contest_cli_words.specs.CommandErrors.{line_of}
use Rattle.contest_cli_words.specs.declared.command_error.CommandError.{CommandError}
use Rattle.contest_cli_words.specs.declared.command_error.CommandError.TheVariants.{Clock, File, Net, Refused, Usage}

-- what is told of so many rows
abbrev pub added_line : ℕ → List ℕ
added_line added = codes "added " ++ decimal added ++ codes "\n"

-- the tables showed the lists of a valid contest, of which its step gives this answer, and a crash leaves the step's contest and no
-- other
pub record Steps (now : ℕ) (kind : ImportKind) (input : Stream) (old new : State) (answer : Result ℕ Refusal) : Type 0 where
  pub bytes : List ℕ
  pub read : WasRead input bytes
  pub contest : ContestState
  pub found : FindsContest old contest
  pub answered : (import_step contest now kind bytes).0 ≡ answer
  pub leaves : LeavesOnly (may_leave_of new) (import_step contest now kind bytes).1

-- an answer is what its step gives, or tells of tables of the first schema
abbrev pub StepsOrFinds : (now : ℕ) → ImportKind → Stream → (old new : State) → Result ℕ Refusal → Type 0
StepsOrFinds now kind input old new answer = ((answer ≡ Err OldSchema) × FindsFirst old new) ⊎ (HasCleanDisk new → Steps now kind input old new answer)

-- nothing was kept: while the connection is open a crash leaves what it could leave before, or the contest that stood with its cells
abbrev pub KeepsNothing : (old new : State) → Type 0
KeepsNothing old new = HasCleanDisk new → IsTrue new.is_open → LeavesNoMore (may_leave_filled old) (may_leave_of new)

-- why it refuses: the store or want of memory, by which nothing is kept; tables of the first schema, the size of the file, or
-- what the step says
abbrev pub RefusesImport : (now : ℕ) → ImportKind → Stream → State → State → Refusal → Type 0
RefusesImport now kind input old new r =
    (((r ≡ StoreFault) ⊎ (r ≡ Memory)) × KeepsNothing old new)
    ⊎ (((r ≡ OldSchema) × FindsFirst old new)
    ⊎ (((r ≡ BodyTooLarge) × IsTooLarge input × KeepsLists old new)
    ⊎ (HasCleanDisk new → Steps now kind input old new (Err r))))

-- the refusal, or the reader that failed
abbrev pub StopsImport : (now : ℕ) → ImportKind → (in_old in_new : Stream) → State → State → CommandError → Type 0
StopsImport now kind in_old in_new old new (Usage text) = ⊥
StopsImport now kind in_old in_new old new (Refused r) = RefusesImport now kind in_old old new r
StopsImport now kind in_old in_new old new File = Fails in_old in_new × KeepsLists old new
StopsImport now kind in_old in_new old new Clock = ⊥
StopsImport now kind in_old in_new old new Net = ⊥

-- a crash leaves what it could leave before, or the contest that stood with its cells, or that of the step
abbrev pub LeavesStep : (now : ℕ) → ImportKind → Stream → State → State → Type 0
LeavesStep now kind input old new =
    (c : Option ContestState) → may_leave_of new c → may_leave_filled old c
    ⊎ ((bytes : List ℕ) × WasRead input bytes × (x : ContestState) × FindsContest old x × (c ≡ Some (import_step x now kind bytes).1))

-- all rows are kept, but `out` failed, so a front of their number is out
pub record CutsOff (now : ℕ) (kind : ImportKind) (input out_old out_new : Stream) (old new : State) (stop : CommandError) : Type 0 where
  pub failed : Fails out_old out_new
  pub stopped : stop ≡ File
  pub added : ℕ
  pub told : AppendsFront out_old.bytes out_new.bytes (added_line added)
  pub kept : HasCleanDisk new → Steps now kind input old new (Ok added)

-- how it ends, by its status: 0 with the number of rows on `out` once they are kept; 1 with a line on `err` of the first
-- fault
pub record Imports (now : ℕ) (kind : ImportKind) (in_old in_new out_old out_new err_old err_new : Stream) (old new : State) (status : ℕ) : Type 0 where
  pub statuses : status ≤ 1
  pub done : status ≡ 0 → (added : ℕ) × (HasCleanDisk new → Steps now kind in_old old new (Ok added))
      × Appends out_old.bytes out_new.bytes (added_line added) × Keeps err_old.bytes err_new.bytes
  pub refused : status ≡ 1 → (stop : CommandError) × Tells err_old err_new (line_of stop)
      × ((StopsImport now kind in_old in_new old new stop × Keeps out_old.bytes out_new.bytes)
      ⊎ CutsOff now kind in_old out_old out_new old new stop)
  pub leaves : HasCleanDisk new → LeavesStep now kind in_old old new
