-- What each call of a keeper leaves.
use Rattle.std.proofs.Common.{◌≡◌, ◌∙◌, ℕ, Bool, true, false, Option, None, Some, Ok, Err, Result, IsTrue, refl, sym, ap, inl, inr, subst, arith}
use Rattle.std.specs.Prelude.{IfSome, is_some}
use Rattle.sqlite.specs.Tree.{Trees}
use Rattle.sqlite.specs.State.{State, HasCleanDisk}
use Rattle.contest_store.specs.Keeping.{Adds, Commits, Kept, Leaves, LeavesOnly, Reads, Shows}
use Rattle.contest_lists.specs.Lists.{loaded}
use Rattle.contest_store.specs.declared.store_error.StoreError.{StoreError}
use Rattle.contest_types.specs.Addable.{is_addable}
use Rattle.contest_types.specs.State.{ContestState, add}
use Rattle.contest_streams.specs.Streams.{one_more}
use Rattle.contest_types.specs.declared.entry.Entry.{Entry}
use Rattle.contest_store_tables.specs.Steps.{Call, Content, Ended, Full, Holding, Holds, MakesNone, MakesNow, Showing}
use Rattle.contest_store_tables.specs.Tables.{TableRows}
use Rattle.contest_store_tables.specs.declared.counts.Counts.{Counts}
use Rattle.contest_store_tables.proofs.HoldLemmas.{on_ok}
use Rattle.contest_store_changes.specs.Additions.{HasAdded}
use Rattle.contest_store_changes.specs.ContestTables.{table_rows, valid_contest_in}
use Rattle.contest_store_changes.specs.Sound.{IsSound}
use Rattle.contest_store_changes.proofs.SoundReadings.{sound_contests_read_back}
use Rattle.contest_store_sqlite.specs.Contests.{committed_of, contest_in_trees, contest_of, may_leave_of, HoldsContests}
use Rattle.contest_store_sqlite.specs.Keeping.{IsTrusted, StaysCommitted, StaysHeld, StaysKept, kept_of}
use Rattle.contest_store_sqlite.specs.Steps.{HoldsDesk, MayAdd}
use Rattle.contest_store_sqlite.proofs.LeaveLemmas.{Meets, answered, kept_in, now_in, refused}
use Rattle.contest_store_sqlite.proofs.ShownContests.{both_are, committed_is, contest_is, shown_is, trusted}

-- lists that are those of the contest that a connection holds
held_is : (s : State) (x y lists : ContestState) → HoldsContests s x y → lists ≡ loaded x → IsTrue s.is_open × (lists ≡ loaded (contest_of s))
held_is s x y lists h is = (h.holds.is_open, is ∙ ap loaded (sym (contest_is s x y h)))

still_held : (old new : State) (held : Option ContestState) (kept : ContestState) → HasCleanDisk old → StaysHeld old held → HoldsContests new (contest_of old) kept
    → IfSome held (λ lists. IsTrue new.is_open × (lists ≡ loaded (contest_of new)))
still_held old new None kept clean had h = tt
still_held old new (Some lists) kept clean had h = held_is new (contest_of old) kept lists h (had clean).1

undone : (s : State) (a : Counts) (c : ℕ) (l : Bool) (x : ContestState) → StaysKept s → (IsTrusted s → IsTrue s.is_open → Shows (kept_of s a c l) x x) → StaysCommitted s false
undone s a c l x stays shows clean none is = let shown = shows (trusted s stays clean) is in shown.now_is ∙ sym shown.kept_is

-- while the lists are in memory the connection is open
up_if_held : (s : State) (held : Option ContestState) → HasCleanDisk s → StaysHeld s held → IsTrue (is_some held) → IsTrue s.is_open
up_if_held s None clean had none = absurd (cc none)
up_if_held s (Some lists) clean had some = (had clean).0

same_rows : {a b : TableRows} → Showing a ≡ Showing b → a ≡ b
same_rows e = cc

same_some : {a b : ContestState} → ◌≡◌ {A = Option ContestState} (Some a) (Some b) → a ≡ b
same_some e = cc

-- two sound contests with the same rows are one
same_contest : (x y : ContestState) → IsSound x → IsSound y → Showing (table_rows x) ≡ Showing (table_rows y) → y ≡ x
same_contest x y sound other is = same_some (sym (sound_contests_read_back y other) ∙ ap valid_contest_in (sym (same_rows is)) ∙ sound_contests_read_back x sound)

module _ (old new : State) (b a : Counts) (c : ℕ) (l : Bool) (was : StaysKept old) where
  -- calls that change nothing
  desk : Meets old HoldsDesk
  desk clean up = (((was clean).holds up).holds, (table_rows (contest_of old), refl))

  nothing : (From : Holding) → Meets old From → (db : Trees) → HasCleanDisk old → IsTrue old.is_open → MakesNone old From db → ⊥
  nothing From from db clean up none = none _ _ (from clean up)

  same : HasCleanDisk old → IsTrue old.is_open → Full new (now_in old) (kept_in old) → HoldsContests new (contest_of old) (committed_of old)
  same clean up h = (let k = (was clean).holds up in record { sound = k.sound; was_sound = k.was_sound; holds = h.0.0 })

  -- what was committed stays so
  still_committed : {T : Type 0} (x : T) (is_changed : Bool) → Call (Ok x) old new b a HoldsDesk Full (MakesNone old HoldsDesk) → StaysCommitted old is_changed
      → (HasCleanDisk new → HoldsContests new (contest_of old) (committed_of old)) → StaysCommitted new is_changed
  still_committed x is_changed one before holds clean none is = (
      let early : HasCleanDisk old = omega (arith, one.step.survives.clean) in
      let h = holds clean in
      contest_is new (contest_of old) (committed_of old) h ∙ before early none (one.up clean (was early).live) ∙ sym (committed_is new (contest_of old) (committed_of old) h)
      )

  -- what was read is of the contest that the tables show
  pub read_of_it : {T : Type 0} (x : T) (P : ContestState → Type 0) → Call (Ok x) old new b a HoldsDesk Full (MakesNone old HoldsDesk)
      → (HasCleanDisk new → (y : ContestState) (kept : Content) → IsSound y → Holds old (Showing (table_rows y)) kept → P y) → HasCleanDisk new → P (contest_of old)
  read_of_it x P one all clean = (
      let early : HasCleanDisk old = omega (arith, one.step.survives.clean) in
      let k = (was early).holds (one.up clean (was early).live) in
      all clean (contest_of old) _ k.sound k.holds
      )

  -- the lists were read
  pub load_ok : {T : Type 0} (x : T) (lists : ContestState) (is_changed : Bool) → Call (Ok x) old new b a HoldsDesk Full (MakesNone old HoldsDesk)
      → (HasCleanDisk new → (y : ContestState) (kept : Content) → IsSound y → Holds old (Showing (table_rows y)) kept → lists ≡ loaded y) → StaysCommitted old is_changed
      → (StaysKept new × StaysHeld new (Some lists) × StaysCommitted new is_changed) × Reads {T = Unit {0}} (Ok tt) (kept_of old b c l) (kept_of new a c true)
  load_ok x lists is_changed one are before =
      let left = answered old new b a c l HoldsDesk Full _ was desk (contest_of old) (committed_of old) (λ _. ⊥) (λ n. n) (nothing HoldsDesk desk) x one same tt c true refl (λ _. refl) in (
        (
          left.1,
          λ clean. held_is new (contest_of old) (committed_of old) lists (left.0 clean) (read_of_it x (λ y. lists ≡ loaded y) one are clean),
          still_committed x is_changed one before left.0,
        ),
        left.2,
      )

  -- a file was read
  pub file_ok : {T U : Type 0} (x : T) (y : U) (held : Option ContestState) (is_changed : Bool) → l ≡ is_some held → Call (Ok x) old new b a HoldsDesk Full (MakesNone old HoldsDesk) → StaysHeld old held
      → StaysCommitted old is_changed → (StaysKept new × StaysHeld new held × StaysCommitted new is_changed) × Reads {T = U} (Ok y) (kept_of old b c l) (kept_of new a c (is_some held))
  file_ok x y held is_changed is one had before =
      let left = answered old new b a c l HoldsDesk Full _ was desk (contest_of old) (committed_of old) (λ _. ⊥) (λ n. n) (nothing HoldsDesk desk) x one same y c (is_some held) refl (λ up. subst IsTrue is up) in (
        (left.1, λ clean. still_held old new held (committed_of old) (omega (arith, one.step.survives.clean)) had (left.0 clean), still_committed x is_changed one before left.0),
        left.2,
      )

  -- what was to be read
  pub read_err : {T : Type 0} (U : Type 0) (e : StoreError) → Call {T = T} (Err e) old new b a HoldsDesk Full (MakesNone old HoldsDesk)
      → (StaysKept new × StaysHeld new None × StaysCommitted new false) × Reads {T = U} (Err e) (kept_of old b c l) (kept_of new a c false)
  read_err U e one =
      let left = refused old new b a c l HoldsDesk Full _ was desk (contest_of old) (committed_of old) (λ _. ⊥) (λ n. n) (nothing HoldsDesk desk) e one false in
      ((left.0, λ clean. tt, undone new a c false (committed_of old) left.0 left.1.err), left.1)

  -- a change, of lists that were taken
  module _ (lists : ContestState) (e : Entry) (had : StaysHeld old (Some lists)) (may : IsTrusted old → is_addable (contest_of old) e ≡ true) where
    admits : Meets old (MayAdd lists e)
    admits clean up = (
        let k = (was clean).holds up in
        record { contest = contest_of old; shown = refl; sound = k.sound; held = sym (had clean).1; may = may (trusted old was clean); holds = k.holds }
        )

    changed : HasCleanDisk old → IsTrue old.is_open → HasAdded lists e new (now_in old) (kept_in old) → HoldsContests new (add (contest_of old) e) (committed_of old)
    changed clean up h = (
        let k = (was clean).holds up in
        let one : h.contest ≡ contest_of old = same_contest (contest_of old) h.contest k.sound h.sound h.shown in
        record {
          sound = subst (λ x. IsSound (add x e)) one h.after;
          was_sound = k.was_sound;
          holds = subst (λ x. Holds new (Showing (table_rows (add x e))) (kept_in old)) one h.within.0;
        }
        )

    pub add_ok : {T : Type 0} (x : T) (after : ContestState) → Call (Ok x) old new b a (MayAdd lists e) (HasAdded lists e) (MakesNone old (MayAdd lists e))
        → ((y : ContestState) → loaded y ≡ lists → is_addable y e ≡ true → after ≡ loaded (add y e))
        → (StaysKept new × StaysHeld new (Some after) × StaysCommitted new true) × Adds {T = Unit {0}} (Ok tt) (kept_of old b c l) (kept_of new a c true) (add (contest_of old) e)
    add_ok x after one are =
        let left = answered old new b a c l (MayAdd lists e) (HasAdded lists e) _ was admits (add (contest_of old) e) (committed_of old) (λ _. ⊥) (λ n. n) (nothing (MayAdd lists e) admits) x one changed tt c true refl (λ _. refl) in (
          (
            left.1,
            λ clean.
                let early : HasCleanDisk old = omega (arith, one.step.survives.clean) in
                held_is new (add (contest_of old) e) (committed_of old) after (left.0 clean) (are (contest_of old) (sym (had early).1) (may (trusted old was early))),
            λ clean none is. absurd (cc none),
          ),
          left.2,
        )

    pub add_err : {T : Type 0} (error : StoreError) → Call {T = T} (Err error) old new b a (MayAdd lists e) (HasAdded lists e) (MakesNone old (MayAdd lists e))
        → (StaysKept new × StaysHeld new None × StaysCommitted new false) × Adds {T = Unit {0}} (Err error) (kept_of old b c l) (kept_of new a c false) (add (contest_of old) e)
    add_err error one =
        let left = refused old new b a c l (MayAdd lists e) (HasAdded lists e) _ was admits (add (contest_of old) e) (committed_of old) (λ _. ⊥) (λ n. n) (nothing (MayAdd lists e) admits) error one false in
        ((left.0, λ clean. tt, undone new a c false (committed_of old) left.0 left.1.err), left.1)

  -- a commit
  all_held : Meets old Holds
  all_held clean up = ((was clean).holds up).holds

  ended : HasCleanDisk old → IsTrue old.is_open → Ended new (now_in old) (kept_in old) → HoldsContests new (contest_of old) (contest_of old)
  ended clean up h = (let k = (was clean).holds up in record { sound = k.sound; was_sound = k.sound; holds = h })

  this_contest : (db : Trees) → HasCleanDisk old → IsTrue old.is_open → MakesNow old Holds db → contest_in_trees db ≡ Some (contest_of old)
  this_contest db clean up now = (let k = (was clean).holds up in shown_is db (contest_of old) k.sound (now _ _ k.holds))

  pub commit_ok : {T : Type 0} (x : T) (held : Option ContestState) (c2 : ℕ) → c2 ≡ one_more c → l ≡ is_some held → Call (Ok x) old new b a Holds Ended (MakesNow old Holds) → StaysHeld old held
      → (StaysKept new × StaysHeld new held × StaysCommitted new false) × Commits {T = Unit {0}} (Ok tt) (kept_of old b c l) (kept_of new a c2 (is_some held)) (contest_of old)
  commit_ok x held c2 counted is one had =
      let left = answered old new b a c l Holds Ended _ was all_held (contest_of old) (contest_of old) (λ d. d ≡ Some (contest_of old)) one_more this_contest x one ended tt c2 (is_some held) counted (λ up. subst IsTrue is up) in (
        (left.1, λ clean. still_held old new held (contest_of old) (omega (arith, one.step.survives.clean)) had (left.0 clean), λ clean none is. both_are new (contest_of old) (left.0 clean)),
        left.2,
      )

  pub commit_err : {T : Type 0} (e : StoreError) → Call {T = T} (Err e) old new b a Holds Ended (MakesNow old Holds)
      → (StaysKept new × StaysHeld new None × StaysCommitted new false) × Commits {T = Unit {0}} (Err e) (kept_of old b c l) (kept_of new a c false) (contest_of old)
  commit_err e one =
      let left = refused old new b a c l Holds Ended _ was all_held (contest_of old) (contest_of old) (λ d. d ≡ Some (contest_of old)) one_more this_contest e one false in
      ((left.0, λ clean. tt, undone new a c false (committed_of old) left.0 left.1.err), left.1)

  -- the end of a transaction in which no change stands: a crash leaves what it could leave before
  module _ (same_now : IsTrusted old → IsTrue old.is_open → contest_of old ≡ committed_of old) (only : IsTrusted old → IsTrue old.is_open → LeavesOnly (may_leave_of old) (committed_of old)) where
    ended_early : {T : Type 0} (r : Result T StoreError) (k : Kept) → Leaves r (kept_of old b c l) k (contest_of old) (contest_of old) (λ d. d ≡ Some (contest_of old)) (λ n. n) ⊥ → Reads r (kept_of old b c l) k
    ended_early r k left =
        let settled : k.is_clean → IsTrue old.is_open → contest_of old ≡ committed_of old = λ p up. same_now (left.clean p) up in
        record {
          ok = λ p. on_ok r (λ (s : Shows k (contest_of old) (contest_of old)). record { up = s.up; now_is = s.now_is; kept_is = s.kept_is ∙ settled p (left.up p s.up) }) (left.ok p);
          err = left.err;
          crash = λ p d may. elim (left.crash p d may) [
            | inl before ↦ inl before
            | inr it ↦ inl (subst (may_leave_of old) (sym (it.1 ∙ ap Some (settled p it.0))) (only (left.clean p) it.0).0)
          ];
          clean = left.clean;
          up = left.up;
          shuts = left.shuts;
          troubles = left.troubles;
          faults = left.faults;
          refusals = left.refusals;
          commits = left.commits;
          loaded = left.loaded;
        }

    pub rest_ok : {T : Type 0} (x : T) (held : Option ContestState) → l ≡ is_some held → Call (Ok x) old new b a Holds Ended (MakesNow old Holds) → StaysHeld old held
        → (StaysKept new × StaysHeld new held × StaysCommitted new false) × Reads {T = Unit {0}} (Ok tt) (kept_of old b c l) (kept_of new a c (is_some held))
    rest_ok x held is one had =
        let left = answered old new b a c l Holds Ended _ was all_held (contest_of old) (contest_of old) (λ d. d ≡ Some (contest_of old)) (λ n. n) this_contest x one ended tt c (is_some held) refl (λ up. subst IsTrue is up) in (
          (left.1, λ clean. still_held old new held (contest_of old) (omega (arith, one.step.survives.clean)) had (left.0 clean), λ clean none is. both_are new (contest_of old) (left.0 clean)),
          ended_early (Ok tt) (kept_of new a c (is_some held)) left.2,
        )

    pub rest_err : {T : Type 0} (e : StoreError) → Call {T = T} (Err e) old new b a Holds Ended (MakesNow old Holds)
        → (StaysKept new × StaysHeld new None × StaysCommitted new false) × Reads {T = Unit {0}} (Err e) (kept_of old b c l) (kept_of new a c false)
    rest_err e one =
        let left = refused old new b a c l Holds Ended _ was all_held (contest_of old) (contest_of old) (λ d. d ≡ Some (contest_of old)) (λ n. n) this_contest e one false in
        ((left.0, λ clean. tt, undone new a c false (committed_of old) left.0 left.1.err), ended_early (Err e) (kept_of new a c false) left.1)

-- a commit where all is committed
pub commits_nothing : (s : State) (a : Counts) (c c2 : ℕ) (held : Option ContestState) → StaysHeld s held → StaysCommitted s false → IsTrue (is_some held) → c2 ≡ one_more c
    → Commits {T = Unit {0}} (Ok tt) (kept_of s a c (is_some held)) (kept_of s a c2 (is_some held)) (contest_of s)
commits_nothing s a c c2 held had same loaded counted = record {
  ok = λ p. (let up = up_if_held s held p.0 had loaded in record { up = up; now_is = refl; kept_is = sym (same p.0 refl up) });
  err = λ _ _. tt;
  crash = λ _ d left. inl left;
  clean = λ p. p;
  up = λ _ is. is;
  shuts = λ _ is. inl is;
  troubles = omega arith;
  faults = refl;
  refusals = refl;
  commits = λ _. counted;
  loaded = λ _. loaded;
}
