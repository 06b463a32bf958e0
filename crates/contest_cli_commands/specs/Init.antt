-- How `init` ends, and what it leaves (own).
use Rattle.std.specs.Prelude.{◌≡◌, ◌⊎◌, ◌≤◌, ℕ, List, Some}
use Rattle.std.specs.Io.KnownBytes.{Keeps}
use Rattle.sqlite.specs.State.{HasCleanDisk, State, Survives}
use Rattle.contest_types.specs.State.{ContestState, new_contest}
use Rattle.contest_streams.specs.Streams.{Fails, Stream, Tells}
use Rattle.contest_types.specs.declared.contest.Contest.{Contest}
use Rattle.contest_types.specs.declared.refusal.Refusal.{Refusal}
use Rattle.contest_types.specs.declared.refusal.Refusal.TheVariants.{BodyTooLarge, KeyReused, Malformed, Memory, OldSchema, StoreFault}
use Rattle.contest_store.specs.Keeping.{LeavesOnly}
use Rattle.contest_import.specs.ContestFile.{IsContestFile}
use Rattle.contest_store_tables.specs.Connected.{IsBare}
use Rattle.contest_store_sqlite.specs.Contests.{contest_in_trees, may_leave_of}
use Rattle.contest_store_sqlite.specs.Creation.{IsFilled, KeepsLists, StoodOther}
use Rattle.contest_store_sqlite.specs.Opening.{FindsContest, FindsFirst}
use Rattle.contest_cli_commands.specs.Inputs.{IsTooLarge, WasRead}
use Rattle.contest_cli_words.specs.CommandErrors.{line_of}
use Rattle.contest_cli_words.specs.declared.command_error.CommandError.{CommandError}
use Rattle.contest_cli_words.specs.declared.command_error.CommandError.TheVariants.{Clock, File, Net, Refused, Usage}

-- a file of this contest was read
abbrev pub ReadsContest : Stream → Contest → Type 0
ReadsContest input c = (bytes : List ℕ) × WasRead input bytes × IsContestFile bytes c

-- what was read is no contest's file
abbrev pub ReadsNone : Stream → Type 0
ReadsNone input = (bytes : List ℕ) × WasRead input bytes × ((c : Contest) → IsContestFile bytes c → ⊥)

-- why a file says no contest, or can't be read
abbrev pub RefusesFile : Stream → Refusal → Type 0
RefusesFile input BodyTooLarge = IsTooLarge input
RefusesFile input Malformed = ReadsNone input
RefusesFile input Memory = Unit {0}
RefusesFile input _ = ⊥

abbrev pub StopsFile : (in_old in_new : Stream) → CommandError → Type 0
StopsFile in_old in_new (Refused r) = RefusesFile in_old r
StopsFile in_old in_new File = Fails in_old in_new
StopsFile in_old in_new _ = ⊥

-- where no table stood, a crash leaves the contest and no other; where tables stood, they showed a valid contest with
-- its head, and a crash leaves that and no other
pub record Sets (c : Contest) (old new : State) : Type 0 where
  pub made : IsBare old → LeavesOnly (may_leave_of new) (new_contest c)
  pub stood : ¬ IsBare old → (x : ContestState) × FindsContest old x × (x.fixed.settings.head ≡ c.head)
      × LeavesOnly (may_leave_of new) x

-- a file's contest stands
abbrev pub SetsFile : Stream → State → State → Type 0
SetsFile input old new = (c : Contest) × ReadsContest input c × (HasCleanDisk new → Sets c old new)

-- why a contest isn't set up
abbrev pub RefusesContest : Contest → State → State → Refusal → Type 0
RefusesContest c old new KeyReused = (HasCleanDisk new → StoodOther c.head old new) × KeepsLists old new
RefusesContest c old new OldSchema = FindsFirst old new × KeepsLists old new
RefusesContest c old new StoreFault = Unit {0}
RefusesContest c old new Memory = Unit {0}
RefusesContest c old new _ = ⊥

abbrev pub StopsContest : Contest → State → State → CommandError → Type 0
StopsContest c old new (Refused r) = RefusesContest c old new r
StopsContest c old new _ = ⊥

-- a crash leaves what it could leave before, or this contest, whole, or the one that stood, with its cells
abbrev pub LeavesNew : Contest → State → State → Type 0
LeavesNew c old new = Survives old new (λ db. (contest_in_trees db ≡ Some (new_contest c)) ⊎ IsFilled old db)

-- why it refuses; no other refusal comes
abbrev pub RefusesInit : Stream → State → State → Refusal → Type 0
RefusesInit input old new BodyTooLarge = IsTooLarge input × KeepsLists old new
RefusesInit input old new Malformed = ReadsNone input × KeepsLists old new
RefusesInit input old new KeyReused = (c : Contest) × ReadsContest input c × (HasCleanDisk new → StoodOther c.head old new) × KeepsLists old new
RefusesInit input old new OldSchema = FindsFirst old new × KeepsLists old new
RefusesInit input old new StoreFault = Unit {0}
RefusesInit input old new Memory = Unit {0}
RefusesInit input old new _ = ⊥

-- the refusal, or the reader that failed
abbrev pub StopsInit : (in_old in_new : Stream) → State → State → CommandError → Type 0
StopsInit in_old in_new old new (Usage text) = ⊥
StopsInit in_old in_new old new (Refused r) = RefusesInit in_old old new r
StopsInit in_old in_new old new File = Fails in_old in_new × KeepsLists old new
StopsInit in_old in_new old new Clock = ⊥
StopsInit in_old in_new old new Net = ⊥

-- a crash leaves what it could leave before, or the file's contest, whole, or the one that stood, with its cells
abbrev pub LeavesContest : Stream → State → State → Type 0
LeavesContest input old new = Survives old new (λ db. ((c : Contest) × ReadsContest input c × (contest_in_trees db ≡ Some (new_contest c))) ⊎ IsFilled old db)

-- how it ends, by its status: 0 where the contest stands; 1 with a line on `err` of the first fault
pub record Inits (in_old in_new err_old err_new : Stream) (old new : State) (status : ℕ) : Type 0 where
  pub statuses : status ≤ 1
  pub done : status ≡ 0 → (c : Contest) × ReadsContest in_old c × (HasCleanDisk new → Sets c old new) × Keeps err_old.bytes err_new.bytes
  pub refused : status ≡ 1 → (stop : CommandError) × StopsInit in_old in_new old new stop × Tells err_old err_new (line_of stop)
  pub leaves : LeavesContest in_old old new
