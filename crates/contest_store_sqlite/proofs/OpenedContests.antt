-- What is found where the tables of a desk are read.
use Rattle.std.proofs.Common.{◌≡◌, ◌∙◌, Bool, true, false, Option, Result, Ok, Err, Some, IsTrue, IfOk, inl, inr, refl, sym, ap, subst, arith}
use Rattle.std.specs.Prelude.{IfSome, OnOk}
use Rattle.std.specs.List.{AllByRecursion}
use Rattle.sqlite.specs.Effect.{IsDatabase}
use Rattle.sqlite.specs.State.{HasCleanDisk, State, Survives}
use Rattle.sqlite.proofs.StateLemmas.{survives_then, survives_weaker}
use Rattle.sqlite_catalog.specs.Listing.{IsSound as IsSoundDatabase}
use Rattle.contest_types.specs.State.{ContestState}
use Rattle.contest_store.specs.declared.store_error.StoreError.{StoreError}
use Rattle.contest_store_reading.specs.Spelling.{lists_in_version}
use Rattle.contest_store_rows.specs.declared.versions.TheConstants.{VERSION}
use Rattle.contest_store_cells.specs.CellRows.{cell_rows}
use Rattle.contest_store_tables.specs.Connected.{IsAtRest, IsCelless, IsOfDesk}
use Rattle.contest_store_tables.specs.Numbered.{IsNumbered}
use Rattle.contest_store_tables.specs.Steps.{Call, Celless, Content, Full, Holding, Holds, IsLive, MakesNone, Showing, with_rows}
use Rattle.contest_store_tables.specs.Tables.{TableRows, rows_in, with_cells_back}
use Rattle.contest_store_tables.specs.declared.later_table.LaterTable.{LaterTable}
use Rattle.contest_store_tables.proofs.HoldLemmas.{celless_holds, desk_holds}
use Rattle.contest_store_tables.proofs.SoundRows.{celless_rises_in, rises_in}
use Rattle.contest_store_tables.specs.declared.counts.Counts.{Counts}
use Rattle.contest_store_tables.specs.declared.table_name.TableName.TheVariants.{Accounts, Submissions, Cells}
use Rattle.contest_store_changes.specs.ContestTables.{list_rows, loaded_tables, rows_with, table_rows, valid_listed_in}
use Rattle.contest_store_changes.specs.Kinds.{AreOfKinds}
use Rattle.contest_store_changes.specs.Laws.{IsWide}
use Rattle.contest_store_changes.specs.Sound.{IsSound}
use Rattle.contest_store_changes.proofs.CellsPassed.{put_twice}
use Rattle.contest_store_changes.proofs.ValidSound.{listed_sound}
use Rattle.contest_store_changes.proofs.WideRows.{shown_are_wide}
use Rattle.contest_store_sqlite.specs.Creation.{KeepsLists}
use Rattle.contest_store_sqlite.specs.Loading.{AllRise, AreChecked}
use Rattle.contest_store_sqlite.specs.Opening.{FindsContest, IsRead}
use Rattle.contest_store_sqlite.specs.Settling.{AreCellsOrNone, Keeps, MakesRight, MakesRightOfTables, ReadsTables, Rising}
use Rattle.contest_store_sqlite.specs.Steps.{HoldsDesk}
use Rattle.contest_store_sqlite.proofs.FoundContests.{Found, found}
use Rattle.contest_store_sqlite.proofs.ShownContests.{shown_is}

pub not_live : {P : Type 0} (b : Bool) → b ≡ false → IsTrue b → P
not_live true is up = absurd (cc is)
not_live false is up = absurd (cc up)

pub if_kept : {lists : ContestState} (r : Result ContestState StoreError) {P : Type 0} (Q : ContestState → Type 0) → IfOk r (λ kept. kept ≡ lists) → OnOk r P → (P → (kept : ContestState) → kept ≡ lists → Q kept) → IfOk r Q
if_kept (Ok kept) Q same p f = f p kept same
if_kept (Err e) Q same p f = tt

-- lists that were read in a transaction, and whose cells were settled and committed
module _ {T : Type 0} (x : T) (old mid new : State) (b m : Counts) (lists : ContestState)
    (one : Call (Ok x) old mid b m HoldsDesk Full (MakesNone old HoldsDesk))
    (are : HasCleanDisk mid → (rows : TableRows) (kept : Content) → Holds old (Showing rows) kept → AllRise rows → lists_in_version VERSION (loaded_tables rows) ≡ Some lists)
    (checked : AreChecked lists) (survives : Survives mid new (MakesRight lists mid)) where
  early : HasCleanDisk new → HasCleanDisk mid
  early clean = omega (arith, clean, survives.clean)

  its : HasCleanDisk mid → (rows : TableRows) (kept : Content) → Holds old (Showing rows) kept → AllRise rows → Found VERSION rows lists
  its clean rows kept holds up = found VERSION rows lists (are clean rows kept holds up) checked

  rising : (clean : HasCleanDisk mid) (rows : TableRows) (kept : Content) → (holds : Holds old (Showing rows) kept) → (up : AllRise rows) → Rising lists mid (Showing rows) kept
  rising clean rows kept holds up =
      let f = its clean rows kept holds up in
      record {
        rows = rows;
        shown = refl;
        within = (one.step.ok clean (Showing rows) kept (holds, (rows, refl))).0;
        rises = up Cells;
        contest = f.contest;
        valid = f.valid;
        held = f.held;
      }

  pub reads_tables : (r : Result ContestState StoreError) → IfOk r (λ kept. kept ≡ lists) → Keeps r lists mid new → ReadsTables Showing r old new
  unfolding its rising
  reads_tables r same keeps clean rows kept holds up =
      let h = rising (early clean) rows kept holds up in
      let f = its (early clean) rows kept holds up in
      if_kept r _ same (keeps clean (Showing rows) kept h) (λ done own is. (f.contest, f.read, f.kinds, done.0, is ∙ sym f.held, done.1))

  pub makes_right : Survives old new (MakesRightOfTables Showing old)
  unfolding its rising
  makes_right =
      survives_then old mid new _ (MakesRight lists mid) (MakesRightOfTables Showing old)
      (λ _ db none. (none.0, λ rows kept holds up. absurd (none.1 (Showing rows) kept (holds, (rows, refl)))))
      (λ clean db made. (
        one.up (early clean),
        λ rows kept holds up.
            (let f = its (early clean) rows kept holds up in
            let it = made (Showing rows) kept (rising (early clean) rows kept holds up) in
            (f.contest, f.read, f.kinds, it.0, it.1)),
      ))
      one.step.survives survives

-- what was found is checked
pub are_checked : (found : Option ContestState) (lists : ContestState) → found ≡ Some lists → IfSome found AreChecked → AreChecked lists
are_checked found lists is checked = subst (λ o. IfSome o AreChecked) is checked

-- where no valid contest was found nothing is made
module _ (Stands : TableRows → Content) (old : State) (From : Holding) (from : (rows : TableRows) (kept : Content) → Holds old (Stands rows) kept → From old (Stands rows) kept) where
  pub makes_none : (new : State) → Survives old new (λ db. (IsLive old → IsTrue old.is_open) × MakesNone old From db) → Survives old new (MakesRightOfTables Stands old)
  makes_none new survives =
      survives_weaker old new _ _ (λ _ db none. (none.0, λ rows kept holds up. absurd (none.1 (Stands rows) kept (from rows kept holds)))) survives

  pub makes_none_then : (mid new : State) → Survives old mid (λ db. (IsLive old → IsTrue old.is_open) × MakesNone old From db) → Survives mid new (λ _. ⊥)
      → Survives old new (MakesRightOfTables Stands old)
  makes_none_then mid new one two =
      makes_none new (survives_then old mid new _ (λ _. ⊥) _ (λ _ db none. none) (λ clean db none. absurd none) one two)

-- where the tables of a desk stand outside of a transaction
module _ (Stands : TableRows → Content) (old : State) (rows : TableRows) (outside : old.in_transaction ≡ false)
    (finds : (x : ContestState) → AllRise rows → AreOfKinds x → valid_listed_in rows ≡ Some x → AreCellsOrNone (rows Cells) x → FindsContest old x)
    (holds : HasCleanDisk old → IsTrue old.is_open → Holds old (Stands rows) (Stands rows)) (rises : HasCleanDisk old → IsTrue old.is_open → AllRise rows)
    (wide : AllByRecursion (IsWide Submissions) (rows Submissions)) where
  -- the rows of the contest that they show, with its cells
  whole : (x : ContestState) → AllRise rows → AreOfKinds x → valid_listed_in rows ≡ Some x → IsSound x × (with_rows Cells (cell_rows x) rows ≡ table_rows x)
  whole x up kinds read =
      let own = listed_sound rows x (up Accounts) wide kinds read in
      (own.0, ap (with_rows Cells (cell_rows x)) (sym own.1) ∙ put_twice Cells (rows Cells) (cell_rows x) (list_rows x))

  pub is_read : (new : State) (r : Result ContestState StoreError) → (HasCleanDisk new → HasCleanDisk old) → (HasCleanDisk new → IsLive old → OnOk r (IsTrue old.is_open)) → ReadsTables Stands r old new → HasCleanDisk new
      → IfOk r (IsRead old new)
  is_read new (Err e) early up reads clean = tt
  is_read new (Ok lists) early up reads clean =
      let on = up clean (not_live old.in_transaction outside) in
      let rising = rises (early clean) on in
      let it = reads clean rows (Stands rows) (holds (early clean) on) rising in
      let own = whole it.0 rising it.2 it.1 in
      record {
        contest = it.0;
        found = finds it.0 rising it.2 it.1 it.3;
        held = it.4;
        holds = record { sound = own.0; was_sound = own.0; holds = subst (λ (every : TableRows). Holds new (Showing every) (Showing every)) own.1 it.5 };
      }

  -- a crash leaves no more than it could before, or that contest
  pub keeps_lists : (new : State) → Survives old new (MakesRightOfTables Stands old) → KeepsLists old new
  keeps_lists new survives =
      survives_weaker old new _ _ (λ clean db made.
      (let on = made.0 (not_live old.in_transaction outside) in
      let before : HasCleanDisk old = omega (arith, clean, survives.clean) in
      let rising = rises before on in
      let it = made.1 rows (Stands rows) (holds before on) rising in
      let own = whole it.0 rising it.2 it.1 in
      (it.0, finds it.0 rising it.2 it.1 it.3, shown_is db it.0 own.0 (it.4 ∙ own.1))))
      survives

-- such tables
module _ (old : State) (is : IsOfDesk old) (outside : old.in_transaction ≡ false) (rests : IsTrue old.is_open → IsAtRest old) (sound : IsTrue old.is_open → IsDatabase old.now) (numbered : IsNumbered old) where
  abbrev own : TableRows
  own = rows_in old.now.trees

  holds : HasCleanDisk old → IsTrue old.is_open → Holds old (Showing own) (Showing own)
  holds clean on = desk_holds old (rests on) is (numbered.desk clean on is)

  rise : HasCleanDisk old → IsTrue old.is_open → AllRise own
  rise clean on = rises_in old.now.trees (subst (λ schema. IsSoundDatabase schema old.now.trees) is (sound on)) (numbered.desk clean on is)

  -- their cells are those of the contest, or there is none
  finds : (x : ContestState) → AllRise own → AreOfKinds x → valid_listed_in own ≡ Some x → AreCellsOrNone (own Cells) x → FindsContest old x
  finds x up kinds read (inl none) = inl (is, read, inl none)
  finds x up kinds read (inr same) =
      let sound = listed_sound own x (up Accounts) (shown_are_wide old.now.trees Submissions) kinds read in
      inl (is, read, inr (shown_is old.now.trees x sound.0 (sym sound.1 ∙ ap (λ cells. rows_with cells x) same)))

  pub desk_read : (new : State) (r : Result ContestState StoreError) → (HasCleanDisk new → IsLive old → OnOk r (IsTrue old.is_open)) → Survives old new (MakesRightOfTables Showing old) → ReadsTables Showing r old new → HasCleanDisk new
      → IfOk r (IsRead old new)
  desk_read new r up survives reads clean =
      is_read Showing old own outside finds holds rise (shown_are_wide old.now.trees Submissions) new r (λ now. omega (arith, now, survives.clean)) up reads clean

  pub desk_kept : (new : State) → Survives old new (MakesRightOfTables Showing old) → KeepsLists old new
  desk_kept new survives = keeps_lists Showing old own outside finds holds rise (shown_are_wide old.now.trees Submissions) new survives

-- and those of a desk whose table of the cells was taken out
module _ (old : State) (is : (place : LaterTable) × IsCelless place old) (outside : old.in_transaction ≡ false) (rests : IsTrue old.is_open → IsAtRest old) (sound : IsTrue old.is_open → IsDatabase old.now) (numbered : IsNumbered old) where
  abbrev back : TableRows
  back = rows_in (with_cells_back is.0 old.now.trees)

  stand : HasCleanDisk old → IsTrue old.is_open → Holds old (Celless back) (Celless back)
  stand clean on = celless_holds is.0 old (rests on) is.1 (numbered.celless is.0 clean on is.1)

  climb : HasCleanDisk old → IsTrue old.is_open → AllRise back
  climb clean on = celless_rises_in is.0 old.now.trees (subst (λ schema. IsSoundDatabase schema old.now.trees) is.1 (sound on)) (numbered.celless is.0 clean on is.1)

  pub celless_read : (new : State) (r : Result ContestState StoreError) → (HasCleanDisk new → IsLive old → OnOk r (IsTrue old.is_open)) → Survives old new (MakesRightOfTables Celless old) → ReadsTables Celless r old new → HasCleanDisk new
      → IfOk r (IsRead old new)
  celless_read new r up survives reads clean =
      is_read Celless old back outside (λ x _ _ read _. inr (is.0, is.1, read)) stand climb (shown_are_wide (with_cells_back is.0 old.now.trees) Submissions) new r (λ now. omega (arith, now, survives.clean)) up reads clean

  pub celless_kept : (new : State) → Survives old new (MakesRightOfTables Celless old) → KeepsLists old new
  celless_kept new survives = keeps_lists Celless old back outside (λ x _ _ read _. inr (is.0, is.1, read)) stand climb (shown_are_wide (with_cells_back is.0 old.now.trees) Submissions) new survives
