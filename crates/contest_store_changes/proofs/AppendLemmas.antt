-- A row that was inserted or changed is the change of the contest.
use Rattle.std.proofs.Common.{◌≡◌, ◌∙◌, false, List, Result, Ok, IsTrue, ap, refl, subst, sym}
use Rattle.std.specs.Prelude.{◌↔◌}
use Rattle.sqlite.specs.State.{State}
use Rattle.sqlite.specs.Values.{bound}
use Rattle.sqlite.proofs.StateLemmas.{survives_weaker}
use Rattle.sqlite_value.specs.Order.{Row}
use Rattle.sqlite_value.specs.declared.value.ValueRef.{ValueRef}
use Rattle.contest_store.specs.declared.store_error.StoreError.{StoreError}
use Rattle.contest_types.specs.State.{ContestState, add}
use Rattle.contest_types.specs.declared.entry.Entry.{Entry}
use Rattle.contest_store_rows.specs.Cells.{lent}
use Rattle.contest_store_tables.specs.Changes.{AreChanged, HasChanged, table_of_change}
use Rattle.contest_store_tables.specs.Steps.{Content, Full, HasInserted, Holding, IsWith, MakesNone, Showing, Step, Undoes, Within}
use Rattle.contest_store_tables.specs.Tables.{TableRows}
use Rattle.contest_store_tables.specs.declared.counts.Counts.{Counts}
use Rattle.contest_store_tables.specs.declared.row_change.RowChange.{RowChange}
use Rattle.contest_store_tables.specs.declared.table_name.TableName.{TableName}
use Rattle.contest_store_tables.proofs.HoldLemmas.{on_err, on_ok}
use Rattle.contest_store_tables.proofs.StepLemmas.{leaves, no_step}
use Rattle.contest_store_changes.specs.Additions.{Admits, Appends, HasListed}
use Rattle.contest_store_cells.specs.CellRows.{cell_rows}
use Rattle.contest_store_changes.specs.ContestTables.{list_rows, rows_with, table_rows}
use Rattle.contest_store_changes.specs.EntryRows.{IsGiven, IsRowIfAdmitted, headed}
use Rattle.contest_store_changes.specs.OneRow.{IsOneChange, IsOneRow}
use Rattle.contest_store_changes.specs.Sound.{IsSound}
use Rattle.contest_store_changes.proofs.AppendedRows.{is_one_row}
use Rattle.contest_store_changes.proofs.BoundRows.{Unreal, bound_as}
use Rattle.contest_store_changes.proofs.CellsPassed.{of_its_list, passes_cells}
use Rattle.contest_store_changes.proofs.ChangedRows.{is_one_change}

pub full : (lists : ContestState) (e : Entry) (s : State) (now kept : Content) → Admits lists e s now kept → Full s now kept
full lists e s now kept h = (h.within, (table_rows h.contest, h.shown))

-- where a step over any rows was made, it was made over those of a contest that admits the change
pub admitted : {T : Type 0} (r : Result T StoreError) (old new : State) (b a : Counts) (lists : ContestState) (e : Entry) (To To2 : Holding)
    → ((now kept : Content) → Admits lists e old now kept → To new now kept → To2 new now kept)
    → Step r old new b a Full To (MakesNone old Full) → Step r old new b a (Admits lists e) To2 (MakesNone old (Admits lists e))
admitted r old new b a lists e To To2 f s = record {
  ok = λ clean now kept h. on_ok r (f now kept h) (s.ok clean now kept (full lists e old now kept h));
  err = λ clean. on_err r (λ (u : Undoes old new Full). record { autocommit = u.autocommit; holds = λ is now kept h. u.holds is now kept (full lists e old now kept h) }) (s.err clean);
  counts = s.counts;
  survives = survives_weaker old new _ _ (λ _ db none now kept h. none now kept (full lists e old now kept h)) s.survives;
}

module _ (r : Result (Unit {0}) StoreError) (old new : State) (b a : Counts) (lists : ContestState) (e : Entry) where
  pub adds_row : (name : TableName) (cells : List ValueRef) → IsRowIfAdmitted lists e name (lent cells) → Step r old new b a Full (HasInserted name (bound cells)) (MakesNone old Full)
      → Step r old new b a (Admits lists e) (HasListed lists (headed e)) (MakesNone old (Admits lists e))
  adds_row name cells is s =
      admitted r old new b a lists e (HasInserted name (bound cells)) (HasListed lists (headed e)) (λ now kept h inserted.
      let x = h.contest in
      let y = add x (headed e) in
      let row = is_one_row lists x e name (lent cells) (is x h.sound h.held h.may) h.sound h.held h.may in
      let one : IsOneRow name (bound cells) x y = subst (λ (given : Row). IsOneRow name given x y) (sym (bound_as cells (lent cells) row.0 refl)) row.1 in
      let stands : IsWith name (bound cells) (table_rows x name) (list_rows y name) =
      subst (λ (rows : List Row). IsWith name (bound cells) rows (list_rows y name)) (sym (of_its_list name (cell_rows x) x one.of_lists)) one.with_it in
      record {
        contest = x;
        shown = h.shown;
        sound = h.sound;
        held = h.held;
        within = subst (λ (rows : TableRows). Within new (Showing rows) kept) (passes_cells name (list_rows y name) (cell_rows x) x y one.of_lists one.others)
            (inserted (table_rows x) (list_rows y name) h.shown stands);
      }) s

  pub changes_row : (change : RowChange) (cells : List ValueRef) → IsGiven lists e change (lent cells) → Step r old new b a Full (HasChanged change (bound cells)) (MakesNone old Full) → Appends r old new b a lists e
  changes_row change cells is s =
      admitted r old new b a lists e (HasChanged change (bound cells)) (HasListed lists e) (λ now kept h changed.
      let x = h.contest in
      let y = add x e in
      let name = table_of_change change in
      let row = is_one_change lists x e change (lent cells) is h.sound h.held in
      let one : IsOneChange change (bound cells) x y = subst (λ (given : Row). IsOneChange change given x y) (sym (bound_as cells (lent cells) row.0 refl)) row.1 in
      let stands : AreChanged change (bound cells) (table_rows x name) (list_rows y name) =
      subst (λ (rows : List Row). AreChanged change (bound cells) rows (list_rows y name)) (sym (of_its_list name (cell_rows x) x one.of_lists)) one.changed in
      record {
        contest = x;
        shown = h.shown;
        sound = h.sound;
        held = h.held;
        within = subst (λ (rows : TableRows). Within new (Showing rows) kept) (passes_cells name (list_rows y name) (cell_rows x) x y one.of_lists one.others)
            (changed (table_rows x) (list_rows y name) h.shown stands);
      }) s

-- a row that is inserted where its numbers fit
pub inserts_if : {Fits : Type 0} (r : Result (Unit {0}) StoreError) (old new : State) (b a : Counts) (name : TableName) (cells : List ValueRef) (row : Row) → Unreal row → (Fits → lent cells ≡ row)
    → Step r old new b a Full (HasInserted name (bound cells)) (MakesNone old Full) → Step r old new b a Full (λ s now kept. Fits → HasInserted name row s now kept) (MakesNone old Full)
inserts_if r old new b a name cells row unreal is s =
    leaves r old new b a Full (HasInserted name (bound cells)) (λ st now kept. _ → HasInserted name row st now kept) (MakesNone old Full)
    (λ now kept inserted fits. subst (λ (given : Row). HasInserted name given new now kept) (bound_as cells row unreal (is fits)) inserted) s

-- a change that changes nothing
pub adds_nothing : (s : State) (b : Counts) (lists : ContestState) (e : Entry) → ((x : ContestState) → IsSound x → add x e ≡ x) → Appends (Ok tt) s s b b lists e
adds_nothing s b lists e same =
    no_step tt s b (Admits lists e) (HasListed lists e) (MakesNone s (Admits lists e)) (λ now kept h. record {
      contest = h.contest;
      shown = h.shown;
      sound = h.sound;
      held = h.held;
      within = subst (λ (c : Content). Within s c kept) (h.shown ∙ ap (λ (x : ContestState). Showing (rows_with (cell_rows h.contest) x)) (sym (same h.contest h.sound))) h.within;
    })

-- a number that doesn't fit, where it has to
pub unfit : {P : Type 0} → (IsTrue false ↔ P) → P → ⊥
unfit is fits = absurd (cc (is.1 fits))
