-- A connection as contracts see the store over it.
use Rattle.std.specs.Prelude.{◌≡◌, ℕ, Bool, false, Option, Some, IsTrue, IfSome}
use Rattle.sqlite.specs.State.{State, HasCleanDisk}
use Rattle.contest_store.specs.Keeping.{Kept}
use Rattle.contest_lists.specs.Lists.{loaded}
use Rattle.contest_store_tables.specs.Steps.{IsLive}
use Rattle.contest_store_tables.specs.declared.counts.Counts.{Counts}
use Rattle.contest_types.specs.State.{ContestState}
use Rattle.contest_store_sqlite.specs.Contests.{contest_in_trees, contest_of, committed_of, may_leave_of, HoldsContests}

-- the disk is clean, and the last commit of an open connection shows a contest
abbrev pub IsTrusted : State → Type 0
IsTrusted s = HasCleanDisk s × (IsTrue s.is_open → contest_in_trees s.committed.trees ≡ Some (committed_of s))

abbrev pub kept_of : State → Counts → (commits : ℕ) → (is_loaded : Bool) → Kept
kept_of s counts commits is_loaded = record {
  contest = contest_of s;
  committed = committed_of s;
  is_open = s.is_open;
  is_loaded = is_loaded;
  is_clean = IsTrusted s;
  may_leave = may_leave_of s;
  faults = counts.faults;
  refusals = counts.refusals;
  troubles = s.faults;
  commits = commits;
}

-- true of a connection between the calls of a store
pub record IsKept (s : State) : Type 0 where
  pub live : IsLive s
  pub holds : IsTrue s.is_open → HoldsContests s (contest_of s) (committed_of s)

abbrev pub StaysKept : State → Type 0
StaysKept s = HasCleanDisk s → IsKept s

-- where no change was made since the last commit, the tables show what it left
abbrev pub StaysCommitted : State → (is_changed : Bool) → Type 0
StaysCommitted s is_changed = HasCleanDisk s → is_changed ≡ false → IsTrue s.is_open → contest_of s ≡ committed_of s

-- lists in memory are those of the tables, and the connection is open
abbrev pub StaysHeld : State → Option ContestState → Type 0
StaysHeld s held = HasCleanDisk s → IfSome held (λ lists. IsTrue s.is_open × (lists ≡ loaded (contest_of s)))
