-- All that contracts see of a store, and what a call on it leaves, whoever keeps the contest (own).
use Rattle.std.specs.Prelude.{◌≡◌, ◌⊎◌, ◌≤◌, ℕ, Bool, Option, Some, IsTrue, Result, Ok, Err, OnOk, OnErr, MatchResult}
use Rattle.contest_types.specs.State.{ContestState}
use Rattle.contest_streams.specs.Streams.{one_more, Failed}
use Rattle.contest_store.specs.declared.store_error.StoreError.{StoreError}
use Rattle.contest_store.specs.declared.store_error.StoreError.TheVariants.{Fault, Memory}

pub record Kept : Type 1 where
  -- the contest with the changes that aren't committed yet, and as the last commit left it
  pub contest : ContestState
  pub committed : ContestState
  -- false from a failure that only another open mends
  pub is_open : Bool
  -- the lists are in memory
  pub is_loaded : Bool
  -- what was read so far is what was written
  pub is_clean : Type 0
  -- what an open after a crash at this moment may find; none for what is no contest
  pub may_leave : Option ContestState → Type 0
  -- how many calls failed for another cause than memory
  pub faults : ℕ
  -- how many calls were refused memory
  pub refusals : ℕ
  -- how many times what lies under the store failed
  pub troubles : ℕ
  -- how many commits were answered
  pub commits : ℕ

-- open, with this contest now and this one as it was last committed
pub record Shows (new : Kept) (now kept : ContestState) : Type 0 where
  pub up : IsTrue new.is_open
  pub now_is : new.contest ≡ now
  pub kept_is : new.committed ≡ kept

-- a crash leaves this contest, and no other
abbrev pub LeavesOnly : (Option ContestState → Type 0) → ContestState → Type 0
LeavesOnly may_leave x = may_leave (Some x) × ((c : Option ContestState) → may_leave c → c ≡ Some x)

-- a crash leaves what it could leave before
abbrev pub LeavesNoMore : (old new : Option ContestState → Type 0) → Type 0
LeavesNoMore old new = (c : Option ContestState) → new c → old c

-- a crash leaves what it could leave before, or this contest
abbrev pub LeavesOr : (old new : Option ContestState → Type 0) → ContestState → Type 0
LeavesOr old new x = (c : Option ContestState) → new c → old c ⊎ (c ≡ Some x)

-- a fault is counted, and nothing else is
abbrev pub CountsFaults : {T : Type 0} → Result T StoreError → ℕ → ℕ → Type 0
CountsFaults (Ok v) old new = new ≡ old
CountsFaults (Err Fault) old new = new ≡ one_more old
CountsFaults (Err Memory) old new = new ≡ old

-- want of memory is counted, and nothing else is; but where it may be the caller's own, it need not be
abbrev pub CountsRefusals : {T : Type 0} → (own : Type 0) → Result T StoreError → ℕ → ℕ → Type 0
CountsRefusals own (Ok v) old new = new ≡ old
CountsRefusals own (Err Fault) old new = new ≡ old
CountsRefusals own (Err Memory) old new = (new ≡ one_more old) ⊎ (own × (new ≡ old))

-- On Ok this contest, and this one committed; on Err that of the last commit. A crash leaves what it could
-- leave before or, if the store was open, also these. An open store shuts only where what lies under it
-- failed. So many commits are counted.
pub record Leaves {T : Type 0} (result : Result T StoreError) (old new : Kept) (now kept : ContestState) (also : Option ContestState → Type 0) (counts : ℕ → ℕ) (own : Type 0) : Type 0 where
  pub ok : new.is_clean → OnOk result (Shows new now kept)
  pub err : new.is_clean → IsTrue new.is_open → OnErr result (Shows new old.committed old.committed)
  pub crash : new.is_clean → (c : Option ContestState) → new.may_leave c → old.may_leave c ⊎ (IsTrue old.is_open × also c)
  pub clean : new.is_clean → old.is_clean
  pub up : new.is_clean → IsTrue new.is_open → IsTrue old.is_open
  pub shuts : new.is_clean → IsTrue old.is_open → IsTrue new.is_open ⊎ Failed old.troubles new.troubles
  pub troubles : old.troubles ≤ new.troubles
  pub faults : CountsFaults result old.faults new.faults
  pub refusals : CountsRefusals own result old.refusals new.refusals
  pub commits : new.is_clean → MatchResult result (λ _. new.commits ≡ counts old.commits) (λ _. new.commits ≡ old.commits)
  pub loaded : IsTrue old.is_loaded → OnOk result (IsTrue new.is_loaded)

-- nothing changes
abbrev pub Reads : {T : Type 0} → Result T StoreError → Kept → Kept → Type 0
Reads result old new = Leaves result old new old.contest old.committed (λ _. ⊥) (λ n. n) ⊥

-- this contest, which no commit has
abbrev pub Adds : {T : Type 0} → Result T StoreError → Kept → Kept → ContestState → Type 0
Adds result old new now = Leaves result old new now old.committed (λ _. ⊥) (λ n. n) ⊥

-- this contest, by one commit
abbrev pub Commits : {T : Type 0} → Result T StoreError → Kept → Kept → ContestState → Type 0
Commits result old new now = Leaves result old new now now (λ c. c ≡ Some now) one_more ⊥
