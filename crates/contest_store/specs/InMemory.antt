-- A contest in memory.
use Rattle.std.specs.Prelude.{◌≡◌, ◌⊎◌, ◌≤◌, ℕ, ◌-◌, ◌==◌, Bool, true, false, List, length, map, Option, None, Some, IsTrue, Result, Err, take, if◌then◌else◌}
use Rattle.std.specs.Option.{option_map}
use Rattle.contest_streams.specs.Streams.{one_more}
use Rattle.contest_types.specs.Loads.{without_file}
use Rattle.contest_types.specs.State.{ContestState}
use Rattle.contest_types.specs.declared.entry.Entry.{Entry}
use Rattle.contest_types.specs.declared.entry.Entry.TheVariants.{NewSubmission}
use Rattle.contest_types.specs.declared.submission.Submission.{Submission}
use Rattle.contest_lists.specs.Lists.{filed}
use Rattle.contest_store.specs.Keeping.{Adds, Commits, Kept, Reads}
use Rattle.contest_store.specs.declared.store_error.StoreError.{StoreError}
use Rattle.contest_store.specs.declared.store_error.StoreError.TheVariants.{Fault, Memory}

-- the submissions with their files, and how many of them are committed; the lists as the last commit left
-- them, and with what was added since, if anything was; how many calls failed, were refused memory and
-- committed, and how many more go on until one is made to fail, if one is
pub record Stored : Type 0 where
  pub submissions : List Submission
  pub kept : ℕ
  pub committed : ContestState
  pub pending : Option ContestState
  pub faults : ℕ
  pub refusals : ℕ
  pub commits : ℕ
  pub calls_left : Option ℕ

-- the lists with what was added since the last commit
abbrev pub latest : ContestState → Option ContestState → ContestState
latest committed None = committed
latest committed (Some pending) = pending

abbrev pub lists_of : Stored → ContestState
lists_of s = latest s.committed s.pending

-- the submission that a change adds, if it adds one
abbrev pub submission_in : Entry → Option Submission
submission_in (NewSubmission s) = Some s
submission_in e = None

abbrev pub contest_of : Stored → ContestState
contest_of s = filed s.submissions (lists_of s)

abbrev pub committed_of : Stored → ContestState
committed_of s = filed (take s.kept s.submissions) s.committed

-- the lists have the submissions without their files
pub record AreFiled (submissions : List Submission) (kept : ℕ) (committed lists : ContestState) : Type 0 where
  pub within : kept ≤ length submissions
  pub now : lists.submissions ≡ map without_file submissions
  pub before : committed.submissions ≡ map without_file (take kept submissions)

abbrev pub kept_of : Stored → Kept
kept_of s = record {
  contest = contest_of s;
  committed = committed_of s;
  is_open = true;
  is_loaded = true;
  is_clean = Unit {0};
  may_leave = λ c. c ≡ Some (committed_of s);
  faults = s.faults;
  refusals = s.refusals;
  troubles = s.faults;
  commits = s.commits;
}

-- no change stands that wasn't committed
abbrev pub rolled_back : Stored → Stored
rolled_back s = record s { submissions = take s.kept s.submissions; pending = None }

-- a call failed
abbrev pub counted : Stored → Stored
counted s = record s { faults = one_more s.faults }

-- a call was refused memory
abbrev pub refused : Stored → Stored
refused s = record (rolled_back s) { refusals = one_more s.refusals }

-- the next call is made to fail
abbrev pub is_due : Option ℕ → Bool
is_due None = false
is_due (Some calls) = calls == 0

-- a call that was made to fail: it is counted, no change stands, and those after it go on
abbrev pub failed : Stored → Stored
failed s = record (rolled_back (counted s)) { calls_left = None }

-- a call that goes on
abbrev pub gone_on : Stored → Stored
gone_on s = record s { calls_left = option_map (λ calls. calls - 1) s.calls_left }

-- a call faults where it is made to fail, and nowhere else
abbrev pub FaultsIf : {T : Type 0} → Bool → Result T StoreError → Type 0
FaultsIf due (Err Fault) = due ≡ true
FaultsIf due _ = due ≡ false

-- a call on it was refused memory: one that reads, adds or commits
abbrev pub LacksMemory : (old new : Stored) → Type 0
LacksMemory old new =
    Reads {T = Unit {0}} (Err Memory) (kept_of old) (kept_of new)
    ⊎ (((x : ContestState) × Adds {T = Unit {0}} (Err Memory) (kept_of old) (kept_of new) x) ⊎ ((x : ContestState) × Commits {T = Unit {0}} (Err Memory) (kept_of old) (kept_of new) x))

-- that is no trouble to it, and doesn't shut it
abbrev pub MemoryStaysCalm : Type 0
MemoryStaysCalm = (old new : Stored) → LacksMemory old new → ((kept_of new).troubles ≡ (kept_of old).troubles) × IsTrue (kept_of new).is_open

-- how many more calls go on after one, until one is made to fail; after that all do
abbrev pub left_after : Option ℕ → Option ℕ
left_after None = None
left_after (Some calls) = if calls == 0 then None else Some (calls - 1)
