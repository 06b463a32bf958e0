-- From a call on the tables to what contracts see of the store.
use Rattle.std.proofs.Common.{◌≡◌, inl, inr, ℕ, Bool, false, Option, Ok, Err, IsTrue, refl, subst, arith}
use Rattle.sqlite.specs.Tree.{Trees}
use Rattle.sqlite.specs.State.{State, HasCleanDisk}
use Rattle.contest_store.specs.Keeping.{Leaves}
use Rattle.contest_store.specs.declared.store_error.StoreError.{StoreError}
use Rattle.contest_store_tables.specs.Steps.{Call, Content, Holding, Showing}
use Rattle.contest_store_tables.specs.declared.counts.Counts.{Counts}
use Rattle.contest_types.specs.State.{ContestState}
use Rattle.contest_store_changes.specs.ContestTables.{table_rows}
use Rattle.contest_store_sqlite.specs.Contests.{committed_of, contest_in_trees, contest_of, HoldsContests}
use Rattle.contest_store_sqlite.specs.Keeping.{StaysKept, kept_of}
use Rattle.contest_store_sqlite.proofs.CountLemmas.{counts_faults, counts_refusals, has_failed}
use Rattle.contest_store_sqlite.proofs.ShownContests.{keeps, shows, trusted}

-- the content of now, and of the last commit
abbrev pub now_in : State → Content
now_in s = Showing (table_rows (contest_of s))

abbrev pub kept_in : State → Content
kept_in s = Showing (table_rows (committed_of s))

-- an open connection meets what a call starts from
abbrev pub Meets : State → Holding → Type 0
Meets old From = HasCleanDisk old → IsTrue old.is_open → From old (now_in old) (kept_in old)

pub not_inside : {P : Type 0} (b : Bool) → b ≡ false → IsTrue b → P
not_inside b e i = absurd (let x = rw e at i in cc)

module _ {T : Type 0} (old new : State) (b a : Counts) (c : ℕ) (l : Bool) (From To : Holding) (Made : Trees → Type 0) (was : StaysKept old) (from : Meets old From)
    (now kept : ContestState) (also : Option ContestState → Type 0) (counts : ℕ → ℕ) (made : (db : Trees) → HasCleanDisk old → IsTrue old.is_open → Made db → also (contest_in_trees db)) where
  module _ (x : T) (one : Call (Ok x) old new b a From To Made) (to : HasCleanDisk old → IsTrue old.is_open → To new (now_in old) (kept_in old) → HoldsContests new now kept) where
    early : HasCleanDisk new → HasCleanDisk old
    early clean = omega (arith, one.step.survives.clean)

    was_up : HasCleanDisk new → IsTrue old.is_open
    was_up clean = one.up clean (was (early clean)).live

    holds_ok : HasCleanDisk new → HoldsContests new now kept
    holds_ok clean = to (early clean) (was_up clean) (one.step.ok clean _ _ (from (early clean) (was_up clean)))

    stays_ok : StaysKept new
    stays_ok clean = keeps new now kept (holds_ok clean)

    -- what it holds, that it stays kept, and what contracts see
    pub answered : {U : Type 0} (y : U) (c2 : ℕ) (l2 : Bool) → c2 ≡ counts c → (IsTrue l → IsTrue l2)
        → (HasCleanDisk new → HoldsContests new now kept) × StaysKept new × Leaves {T = U} (Ok y) (kept_of old b c l) (kept_of new a c2 l2) now kept also counts ⊥
    answered {U} y c2 l2 counted loads = (
      holds_ok,
      stays_ok,
      record {
        ok = λ p. shows new now kept (holds_ok p.0) a c2 l2;
        err = λ _ _. tt;
        crash = λ p d left. elim (one.step.survives.crash p.0 left.0 left.1) [
          | inl before ↦ inl (left.0, before, left.2)
          | inr it ↦ inr (was_up p.0, subst also left.2 (made left.0 (early p.0) (was_up p.0) it.1))
        ];
        clean = λ p. trusted old was (early p.0);
        up = λ p _. was_up p.0;
        shuts = λ p is. elim (one.step.survives.closes p.0 is) [ inl up ↦ inl up | inr failed ↦ inr (has_failed old.faults new.faults failed) ];
        troubles = one.step.survives.counts;
        faults = counts_faults {T = T} (Ok x) b a one.step.counts;
        refusals = counts_refusals {T = T} (Ok x) b a one.step.counts;
        commits = λ _. counted;
        loaded = loads;
      },
    )

  module _ (e : StoreError) (one : Call {T = T} (Err e) old new b a From To Made) where
    before : HasCleanDisk new → HasCleanDisk old
    before clean = omega (arith, one.step.survives.clean)

    back : HasCleanDisk new → IsTrue new.is_open → IsTrue old.is_open
    back clean = one.back clean (was (before clean)).live

    holds_err : HasCleanDisk new → IsTrue new.is_open → HoldsContests new (committed_of old) (committed_of old)
    holds_err clean is = (
        let up = back clean is in
        let h = (was (before clean)).holds up in
        record { sound = h.was_sound; was_sound = h.was_sound; holds = (one.step.err clean).holds is _ _ (from (before clean) up) }
        )

    stays_err : StaysKept new
    stays_err clean = record { live = λ i. not_inside new.in_transaction (one.step.err clean).autocommit i; holds = λ is. (keeps new _ _ (holds_err clean is)).holds is }

    pub refused : {U : Type 0} (l2 : Bool) → StaysKept new × Leaves {T = U} (Err e) (kept_of old b c l) (kept_of new a c l2) now kept also counts ⊥
    refused {U} l2 = (
      stays_err,
      record {
        ok = λ _. tt;
        err = λ p is. shows new _ _ (holds_err p.0 is) a c l2;
        crash = λ p d left. elim (one.step.survives.crash p.0 left.0 left.1) [
          | inl may ↦ inl (left.0, may, left.2)
          | inr it ↦ let is = it.0 (was (before p.0)).live in inr (is, subst also left.2 (made left.0 (before p.0) is it.1))
        ];
        clean = λ p. trusted old was (before p.0);
        up = λ p is. back p.0 is;
        shuts = λ p is. elim (one.step.survives.closes p.0 is) [ inl up ↦ inl up | inr failed ↦ inr (has_failed old.faults new.faults failed) ];
        troubles = one.step.survives.counts;
        faults = counts_faults {T = U} (Err e) b a one.step.counts;
        refusals = counts_refusals {T = U} (Err e) b a one.step.counts;
        commits = λ _. refl;
        loaded = λ _. tt;
      },
    )
