-- A store over tables that were read.
use Rattle.std.proofs.Common.{◌∙◌, ℕ, Bool, false, Some, sym, ap, inl, inr}
use Rattle.sqlite.specs.State.{HasCleanDisk, State}
use Rattle.contest_types.specs.State.{ContestState}
use Rattle.contest_lists.specs.Lists.{loaded}
use Rattle.contest_store_tables.specs.declared.counts.Counts.{Counts}
use Rattle.contest_store_sqlite.specs.Creation.{KeepsLists}
use Rattle.contest_store_sqlite.specs.Keeping.{StaysCommitted, StaysHeld, StaysKept, kept_of}
use Rattle.contest_store_sqlite.specs.Opening.{HasDesk, IsRead, Opened, ShowsValid}
use Rattle.contest_store_sqlite.proofs.ShownContests.{both_are, contest_is, has_desk, keeps, shows}

-- what it keeps true of itself
pub is_whole : (old new : State) (lists : ContestState) → (HasCleanDisk new → IsRead old new lists) → StaysKept new × StaysHeld new (Some lists) × StaysCommitted new false
is_whole old new lists read = (
  λ clean. (let r = read clean in keeps new r.contest r.contest r.holds),
  λ clean. (let r = read clean in (r.holds.holds.is_open, r.held ∙ ap loaded (sym (contest_is new r.contest r.contest r.holds)))),
  λ clean none is. (let r = read clean in both_are new r.contest r.holds),
)

-- it shows a valid contest
pub read_valid : (old new : State) (counts : Counts) (commits : ℕ) (is_loaded : Bool) (lists : ContestState) → IsRead old new lists → ShowsValid (kept_of new counts commits is_loaded)
read_valid old new counts commits is_loaded lists r = record { contest = r.contest; shows = shows new r.contest r.contest r.holds counts commits is_loaded; valid = r.holds.sound.valid }

-- and what contracts see of it
pub opened : (old new : State) (counts : Counts) (commits : ℕ) (is_loaded : Bool) (lists : ContestState) → IsRead old new lists → KeepsLists old new → HasCleanDisk new → Opened old (kept_of new counts commits is_loaded)
opened old new counts commits is_loaded lists r survives clean = record {
  contest = r.contest;
  found = r.found;
  shows = shows new r.contest r.contest r.holds counts commits is_loaded;
  crash = λ c left. elim (survives.crash clean left.0 left.1) [ inl before ↦ inl (left.0, before, left.2) | inr filled ↦ inr (filled.0, filled.1, sym left.2 ∙ filled.2) ];
}

-- its tables are those of a desk
pub read_is_desk : (old new : State) (lists : ContestState) → IsRead old new lists → HasDesk new
read_is_desk old new lists r = has_desk new r.contest r.contest r.holds
