-- What BEGIN, COMMIT, a query and a call that is undone make of the rows that the tables show.
use Rattle.std.proofs.Common.{◌≡◌, inl, inr, ℕ, List, [], codes, Some, None, Option, Ok, Err, Result, IsTrue, OnOk, OnErr, IfOk, false, sym, subst, arith, refl}
use Rattle.sqlite.specs.Tree.{Trees}
use Rattle.sqlite.specs.Effect.{Database}
use Rattle.sqlite.specs.Command.TheVariants.{Begin, Commit}
use Rattle.sqlite.specs.State.{State, CommitsBy, Executes, Shown, ShowsRows, IsUnchanged}
use Rattle.sqlite.specs.Order.{Row}
use Rattle.sqlite.specs.Listing.{understood}
use Rattle.sqlite_resolve.specs.declared.compiled.Compiled.{Compiled}
use Rattle.sqlite_schema.specs.declared.command.Returning.{Returning}
use Rattle.sqlite.proofs.Callers.{IsPlain}
use Rattle.sqlite.specs.Schema.{Schema}
use Rattle.sqlite.specs.Table.{Table}
use Rattle.std.specs.List.{AllByRecursion}
use Rattle.contest_store.specs.declared.store_error.StoreError.{StoreError}
use Rattle.contest_store_tables.specs.Connected.{IsAtRest, IsCelless, IsOfDesk, IsLacking, IsBare, IsUndone}
use Rattle.contest_store_tables.specs.Tables.{rows_in, lacking, with_cells_back}
use Rattle.contest_store_tables.specs.declared.later_table.LaterTable.{LaterTable}
use Rattle.contest_store_tables.specs.Steps.{Celless, Content, OnlyMade, Showing, Lacking, HasContent, Spells, Holds, Within, AreNumbered}
use Rattle.contest_store_tables.proofs.OneWordTexts.{begin_is, commit_is}
use Rattle.contest_store_tables.proofs.UndoLemmas.{runs_word, commits_word}

pub on_ok : {T E P Q : Type 0} (r : Result T E) → (P → Q) → OnOk r P → OnOk r Q
on_ok (Ok x) f h = f h
on_ok (Err e) f h = tt

pub on_err : {T E P Q : Type 0} (r : Result T E) → (P → Q) → OnErr r P → OnErr r Q
on_err (Ok x) f h = tt
on_err (Err e) f h = f h

pub if_ok : {T E : Type 0} {P Q : T → Type 0} (r : Result T E) → IfOk r P → ((x : T) → P x → Q x) → IfOk r Q
if_ok (Ok x) h f = f x h
if_ok (Err e) h f = tt

-- a connection that sees the same databases holds the same
pub same_holds : (old new : State) (now kept : Content) → IsTrue new.is_open → new.now ≡ old.now → new.committed ≡ old.committed → Holds old now kept → Holds new now kept
same_holds old new now kept up same committed h = record {
  is_open = up;
  shows = subst (λ d. HasContent d now) (sym same) h.shows;
  keeps = subst (λ d. HasContent d kept) (sym committed) h.keeps;
}

-- what a connection holds at first
pub bare_holds : (s : State) → IsAtRest s → IsBare s → Holds s (OnlyMade []) (OnlyMade [])
bare_holds s rest bare =
    let none : HasContent s.now (OnlyMade []) = (bare, subst (λ (schema : Schema). AllByRecursion (λ (t : Table). s.now.trees t.tree ≡ []) schema.tables) (sym bare) tt) in
    record { is_open = rest.0; shows = none; keeps = subst (λ d. HasContent d (OnlyMade [])) rest.1 none }

pub desk_holds : (s : State) → IsAtRest s → IsOfDesk s → AreNumbered s.now.trees → Holds s (Showing (rows_in s.now.trees)) (Showing (rows_in s.now.trees))
desk_holds s rest desk numbered =
    let all : HasContent s.now (Showing (rows_in s.now.trees)) = (desk, refl, numbered) in
    record { is_open = rest.0; shows = all; keeps = subst (λ d. HasContent d (Showing (rows_in s.now.trees))) rest.1 all }

pub lacking_holds : (table : LaterTable) (s : State) → IsAtRest s → IsLacking table s → AreNumbered (lacking table s.now.trees)
    → Holds s (Lacking table (rows_in (lacking table s.now.trees))) (Lacking table (rows_in (lacking table s.now.trees)))
lacking_holds table s rest is numbered =
    let all : HasContent s.now (Lacking table (rows_in (lacking table s.now.trees))) = (is, refl, numbered) in
    record { is_open = rest.0; shows = all; keeps = subst (λ d. HasContent d (Lacking table (rows_in (lacking table s.now.trees)))) rest.1 all }

pub celless_holds : (place : LaterTable) (s : State) → IsAtRest s → IsCelless place s → AreNumbered (with_cells_back place s.now.trees)
    → Holds s (Celless (rows_in (with_cells_back place s.now.trees))) (Celless (rows_in (with_cells_back place s.now.trees)))
celless_holds place s rest is numbered =
    let all : HasContent s.now (Celless (rows_in (with_cells_back place s.now.trees))) = (place, is, refl, numbered) in
    record { is_open = rest.0; shows = all; keeps = subst (λ d. HasContent d (Celless (rows_in (with_cells_back place s.now.trees)))) rest.1 all }

pub begun : (old new : State) (now kept : Content) (count : ℕ) → Holds old now kept → Executes (codes "BEGIN") [] old new (Ok count) → Within new now kept
begun old new now kept count h ran =
    let shown = (runs_word (codes "BEGIN") Begin 5 begin_is (omega arith) old new count ran).1 in
    (same_holds old new now kept shown.is_open shown.now_is shown.committed_is h, shown.mode)

pub begin_open : (old new : State) (count : ℕ) → Executes (codes "BEGIN") [] old new (Ok count) → IsTrue old.is_open
begin_open old new count ran = (runs_word (codes "BEGIN") Begin 5 begin_is (omega arith) old new count ran).1.was_open

pub begin_keeps : (s : State) (db : Trees) → CommitsBy (codes "BEGIN") [] s db → ⊥
begin_keeps s db h = elim (commits_word (codes "BEGIN") Begin 5 begin_is (omega arith) s db h) [
  | inl ends ↦ elim ends.0 [ inl commit ↦ (let x = commit in cc) | inr release ↦ (let x = release.2 in cc) ]
  | inr write ↦ (let x = write.3 in cc)
]

pub committed : (old new : State) (now kept : Content) (count : ℕ) → Holds old now kept → Executes (codes "COMMIT") [] old new (Ok count) → Holds new now now
committed old new now kept count h ran =
    let shown = (runs_word (codes "COMMIT") Commit 6 commit_is (omega arith) old new count ran).1 in
    record {
      is_open = shown.is_open;
      shows = subst (λ d. HasContent d now) (sym shown.now_is) h.shows;
      keeps = subst (λ d. HasContent d now) (sym shown.committed_is) h.shows;
    }

-- no transaction stands after it, whatever came of it
pub commit_rests : (r : Result (Unit {0}) StoreError) (old new : State) → OnOk r ((count : ℕ) × Executes (codes "COMMIT") [] old new (Ok count)) → OnErr r (IsUndone old new) → new.in_transaction ≡ false
commit_rests (Ok done) old new ok err = (runs_word (codes "COMMIT") Commit 6 commit_is (omega arith) old new ok.0 ok.1).1.mode
commit_rests (Err e) old new ok err = err.autocommit

spelled : (d : Database) (x : Content) → HasContent d x → Spells d.trees x
spelled d (OnlyMade made) h = tt
spelled d (Showing rows) h = h.1
spelled d (Lacking table rows) h = h.1
spelled d (Celless rows) h = (h.0, h.2)

-- a crash in the commit leaves what it could leave before, or the rows of the transaction
pub commit_leaves : (s : State) (now kept : Content) (db : Trees) → Holds s now kept → CommitsBy (codes "COMMIT") [] s db → Spells db now
commit_leaves s now kept db h it = elim (commits_word (codes "COMMIT") Commit 6 commit_is (omega arith) s db it) [
  | inl ends ↦ subst (λ t. Spells t now) (sym ends.1) (spelled s.now now h.shows)
  | inr write ↦ absurd (let x = write.3 in cc)
]

-- what the last commit left is what the next call works on
pub undone_holds : (old new : State) (now kept : Content) → Holds old now kept → IsTrue new.is_open → IsUndone old new → Holds new kept kept
undone_holds old new now kept h is u =
    let same = u.undone is in
    record { is_open = is; shows = subst (λ d. HasContent d kept) (sym same.0) h.keeps; keeps = subst (λ d. HasContent d kept) (sym same.1) h.keeps }

shows_unchanged : (old new : State) (sql : List ℕ) (c : Compiled) (params : Row) (rows : List Row) (o : Option Returning) → o ≡ None → ShowsRows old new sql c params rows o → IsUnchanged old new
shows_unchanged old new sql c params rows None e h = h.3
shows_unchanged old new sql c params rows (Some x) e h = absurd (cc)

-- a query leaves what there is
pub shown_within : (sql : List ℕ) (params : Row) (old new : State) (now kept : Content) (rows : List Row) → Within old now kept → IsPlain (understood old.now.schema sql) → Shown sql params old new rows → Within new now kept
unfolding Shown
shown_within sql params old new now kept rows h plain shown =
    let same = shows_unchanged old new sql shown.0 _ rows shown.0.returning (subst IsPlain shown.1.is plain).0 shown.2 in
    (same_holds old new now kept same.0.is_open same.0.now_is same.0.committed_is h.0, subst IsTrue (sym same.0.mode) h.1)
