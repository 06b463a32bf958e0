-- What doing one thing leaves of a kept contest, whoever keeps it: a request that is handled, a file that is imported, an
-- item of a run (own).
use Rattle.std.specs.Prelude.{◌≡◌, ◌⊎◌, ◌≤◌, List, IsTrue, IsFalse}
use Rattle.contest_types.specs.State.{ContestState}
use Rattle.contest_types.specs.declared.entry.Entry.{Entry}
use Rattle.contest_streams.specs.Streams.{Failed, one_more}
use Rattle.contest_store.specs.Keeping.{Kept, LeavesNoMore, LeavesOnly, LeavesOr}
use Rattle.contest_desk.specs.Serving.{commits_for}

-- It is done, and the contest is `after` then, by these entries in one commit; or it failed (`is_failed`), for the store did
-- (`is_fault`) or memory was refused, and the contest is as before.
pub record DoesOrFails (old new : Kept) (after : ContestState) (entries : List Entry) (is_failed is_fault : Type 0) : Type 0 where
  -- done: the contest, and that a crash leaves it and no other
  pub contest : new.is_clean → ¬ is_failed → new.contest ≡ after
  pub kept : new.is_clean → ¬ is_failed → LeavesOnly new.may_leave after
  -- failed: the contest as before, while the store is open
  pub unchanged : new.is_clean → IsTrue new.is_open → is_failed → new.contest ≡ old.contest
  -- an open store holds a contest that a crash leaves, and no other
  pub settled : new.is_clean → IsTrue new.is_open → LeavesOnly new.may_leave new.contest
  -- a crash on the way leaves what it could before, or `after`, whole; on a store that was shut, nothing else than before
  pub crash : new.is_clean → LeavesOr old.may_leave new.may_leave after
  pub shut : new.is_clean → IsFalse old.is_open → LeavesNoMore old.may_leave new.may_leave
  -- the store is open once it is done; it shuts only if what lies under it failed, and stays shut
  pub opens : new.is_clean → is_failed ⊎ (IsTrue new.is_open × ¬ is_failed)
  pub up : new.is_clean → IsTrue new.is_open → IsTrue old.is_open
  pub shuts : new.is_clean → IsTrue old.is_open → IsTrue new.is_open ⊎ Failed old.troubles new.troubles
  pub troubles : old.troubles ≤ new.troubles
  -- what is read right now was read right before
  pub clean : new.is_clean → old.is_clean
  -- a fault is counted, and nothing else is
  pub fault : is_fault → new.faults ≡ one_more old.faults
  pub no_fault : ¬ is_fault → new.faults ≡ old.faults
  -- one commit if something is added, and none if nothing is or it failed
  pub commits : new.is_clean → ¬ is_failed → new.commits ≡ commits_for entries old.commits
  pub no_commit : new.is_clean → is_failed → new.commits ≡ old.commits
