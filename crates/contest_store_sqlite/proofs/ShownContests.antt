-- The contests that a connection holds are those that its tables show.
use Rattle.std.proofs.Common.{◌≡◌, ◌∙◌, ℕ, Bool, Option, Some, sym, ap, subst₂}
use Rattle.std.specs.Prelude.{unwrap_or}
use Rattle.sqlite.specs.State.{HasCleanDisk, State}
use Rattle.sqlite.specs.Tree.{Trees}
use Rattle.contest_store.specs.Keeping.{Shows}
use Rattle.contest_store_tables.specs.Tables.{rows_in}
use Rattle.contest_store_tables.proofs.CellessLemmas.{lacks_no_cells}
use Rattle.contest_store_tables.proofs.LaterLemmas.{lacks_none}
use Rattle.contest_store_tables.specs.declared.counts.Counts.{Counts}
use Rattle.contest_types.specs.State.{ContestState}
use Rattle.contest_store_changes.specs.ContestTables.{table_rows, valid_contest_in}
use Rattle.contest_store_changes.specs.Sound.{IsSound}
use Rattle.contest_store_changes.proofs.SoundReadings.{sound_contests_read_back}
use Rattle.contest_store_sqlite.specs.Contests.{committed_of, contest_in_trees, contest_of, HoldsContests, no_contest}
use Rattle.contest_store_sqlite.specs.Opening.{HasDesk}
use Rattle.contest_store_sqlite.specs.Keeping.{IsKept, IsTrusted, StaysKept, kept_of}
use Rattle.contest_store_tables.specs.Numbered.{IsNumbered}

pub shown_is : (db : Trees) (x : ContestState) → IsSound x → rows_in db ≡ table_rows x → contest_in_trees db ≡ Some x
shown_is db x sound is = ap valid_contest_in is ∙ sound_contests_read_back x sound

taken : (o : Option ContestState) (x : ContestState) → o ≡ Some x → unwrap_or o no_contest ≡ x
taken o x is = ap (λ p. unwrap_or p no_contest) is

module _ (s : State) (x y : ContestState) (h : HoldsContests s x y) where
  pub contest_is : contest_of s ≡ x
  contest_is = taken (contest_in_trees s.now.trees) x (shown_is s.now.trees x h.sound h.holds.shows.1)

  pub committed_is : committed_of s ≡ y
  committed_is = taken (contest_in_trees s.committed.trees) y (shown_is s.committed.trees y h.was_sound h.holds.keeps.1)

  pub shows : (counts : Counts) (commits : ℕ) (is_loaded : Bool) → Shows (kept_of s counts commits is_loaded) x y
  shows counts commits is_loaded = record { up = h.holds.is_open; now_is = contest_is; kept_is = committed_is }

  pub keeps : IsKept s
  keeps = record { live = λ _. h.holds.is_open; holds = λ _. subst₂ (HoldsContests s) (sym contest_is) (sym committed_is) h }

-- they are those of a desk
pub has_desk : (s : State) (x y : ContestState) → HoldsContests s x y → HasDesk s
has_desk s x y h = record { now = h.holds.shows.0; committed = h.holds.keeps.0 }

-- the tables show what was committed
pub both_are : (s : State) (x : ContestState) → HoldsContests s x x → contest_of s ≡ committed_of s
both_are s x h = contest_is s x x h ∙ sym (committed_is s x x h)

-- an open connection that is kept shows a contest where it was last committed
pub trusted : (s : State) → StaysKept s → HasCleanDisk s → IsTrusted s
trusted s kept clean = (clean, λ up. (let h = (kept clean).holds up in shown_is s.committed.trees (committed_of s) h.was_sound h.holds.keeps.1))

-- and its rows rise by their numbers
pub kept_numbered : (s : State) → StaysKept s → IsNumbered s
kept_numbered s kept = record {
  desk = λ clean up desk. ((kept clean).holds up).holds.shows.2;
  lacking = λ table clean up is. absurd (lacks_none table s.now.schema (((kept clean).holds up).holds.shows.0) is);
  celless = λ place clean up is. absurd (lacks_no_cells place s.now.schema (((kept clean).holds up).holds.shows.0) is);
}
