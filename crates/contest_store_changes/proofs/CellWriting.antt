-- Two rows of cells are written one after the other.
use Rattle.std.proofs.Common.{◌≡◌, ◌∙◌, Bool, true, false, Result, Ok, refl, sym, subst}
use Rattle.sqlite.specs.State.{State}
use Rattle.sqlite.proofs.StateLemmas.{survives_weaker}
use Rattle.sqlite_value.specs.Order.{Row}
use Rattle.contest_store.specs.declared.store_error.StoreError.{StoreError}
use Rattle.contest_store_tables.specs.Steps.{Content, Full, Holding, MakesNone, Showing, Step, Undoes, Within, with_rows}
use Rattle.contest_store_tables.specs.Tables.{TableRows}
use Rattle.contest_store_tables.specs.declared.counts.Counts.{Counts}
use Rattle.contest_store_tables.specs.declared.table_name.TableName.TheVariants.{Cells}
use Rattle.contest_store_tables.proofs.HoldLemmas.{on_err, on_ok}
use Rattle.contest_store_tables.proofs.StepLemmas.{in_turn}
use Rattle.contest_store_changes.specs.CellSteps.{HasWritten, HasWrittenBoth, IsWritable, MayWrite, written}
use Rattle.contest_store_changes.proofs.CellsPassed.{put_twice}

-- a step that starts from less also starts from more
pub narrowed : {T : Type 0} (r : Result T StoreError) (old new : State) (b a : Counts) (From From2 To To2 : Holding) → ((now kept : Content) → From2 old now kept → From old now kept)
    → ((now kept : Content) → From2 old now kept → To new now kept → To2 new now kept) → Step r old new b a From To (MakesNone old From) → Step r old new b a From2 To2 (MakesNone old From2)
narrowed r old new b a From From2 To To2 less leads s = record {
  ok = λ clean now kept h. on_ok r (leads now kept h) (s.ok clean now kept (less now kept h));
  err = λ clean. on_err r (λ (u : Undoes old new From). record { autocommit = u.autocommit; holds = λ is now kept h. u.holds is now kept (less now kept h) }) (s.err clean);
  counts = s.counts;
  survives = survives_weaker old new _ _ (λ _ db none now kept h. none now kept (less now kept h)) s.survives;
}

-- a row that may be written is written
one_written : (is_new : Bool) (row : Row) (s : State) (now kept : Content) (rows : TableRows) → HasWritten is_new row s now kept → now ≡ Showing rows → IsWritable is_new row (rows Cells)
    → Within s (Showing (with_rows Cells (written is_new row (rows Cells)) rows)) kept
one_written true row s now kept rows h is may = h rows (written true row (rows Cells)) is may
one_written false row s now kept rows h is may = h rows (written false row (rows Cells)) is may

pub same_showing : (rows more : TableRows) → Showing rows ≡ Showing more → rows ≡ more
same_showing rows more h = cc h

module _ (r : Result (Unit {0}) StoreError) (old mid new : State) (b m a : Counts) (is_new : Bool) (held full : Row)
    (one : Step {T = Unit {0}} (Ok tt) old mid b m Full (HasWritten is_new held) (MakesNone old Full)) (two : Step r mid new m a Full (HasWritten is_new full) (MakesNone mid Full)) where
  abbrev May : Holding
  May = MayWrite is_new held full

  fully : (now kept : Content) → May old now kept → Full old now kept
  fully now kept h = (h.within, (h.rows, h.shown))

  -- what the tables show in between
  abbrev between : TableRows → TableRows
  between rows = with_rows Cells (written is_new held (rows Cells)) rows

  halfway : (now kept : Content) → (h : May old now kept) → HasWritten is_new held mid now kept → Within mid (Showing (between h.rows)) kept
  halfway now kept h done = one_written is_new held mid now kept h.rows done h.shown h.first

  ends : (now kept : Content) → (h : May old now kept) → HasWritten is_new full new (Showing (between h.rows)) kept → HasWrittenBoth is_new held full new now kept
  ends now kept h done rows is =
      let same : h.rows ≡ rows = same_showing h.rows rows (sym h.shown ∙ is) in
      let both = one_written is_new full new (Showing (between h.rows)) kept (between h.rows) done refl h.second in
      let put = put_twice Cells (written is_new held (h.rows Cells)) (written is_new full (written is_new held (h.rows Cells))) h.rows in
      subst (λ (own : TableRows). Within new (Showing (with_rows Cells (written is_new full (written is_new held (own Cells))) own)) kept) same
      (subst (λ (own : TableRows). Within new (Showing own) kept) put both)

  pub both_written : Step r old new b a May (HasWrittenBoth is_new held full) (MakesNone old May)
  both_written =
      in_turn tt r old mid new b m a May (HasWritten is_new held) Full (HasWritten is_new full) (HasWrittenBoth is_new held full) (MakesNone old May) (MakesNone mid Full)
      (narrowed {T = Unit {0}} (Ok tt) old mid b m Full May (HasWritten is_new held) (HasWritten is_new held) fully (λ now kept h done. done) one) two
      (λ now kept h done. (Showing (between h.rows), (halfway now kept h done, (between h.rows, refl)), λ to. ends now kept h to))
      (λ db on none now kept h. none (Showing (between h.rows)) kept (halfway now kept h (on now kept h), (between h.rows, refl)))
      (λ db none. none)
