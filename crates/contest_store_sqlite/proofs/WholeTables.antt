-- The tables of a desk that lacks some, once these are made in a transaction.
use Rattle.std.proofs.Common.{◌≡◌, ◌∙◌, Result, Ok, refl, sym, subst, arith}
use Rattle.sqlite.specs.State.{HasCleanDisk, State}
use Rattle.sqlite.proofs.StateLemmas.{survives_then}
use Rattle.contest_store.specs.declared.store_error.StoreError.{StoreError}
use Rattle.contest_store_tables.specs.Counts.{CountsCall}
use Rattle.contest_store_tables.specs.Steps.{Call, Content, Full, Holding, FullLacking, HasLater, Lacking, MakesNone, Showing, Step, Undoes, Within}
use Rattle.contest_store_tables.specs.Tables.{TableRows}
use Rattle.contest_store_tables.specs.declared.counts.Counts.{Counts}
use Rattle.contest_store_tables.specs.declared.later_table.LaterTable.{LaterTable}
use Rattle.contest_store_tables.specs.declared.later_table.LaterTable.TheVariants.{Cells, Notices}
use Rattle.contest_store_tables.proofs.HoldLemmas.{on_err, on_ok}
use Rattle.contest_store_tables.proofs.StepLemmas.{in_turn}
use Rattle.contest_store_sqlite.specs.Steps.{HasAll, HoldsLacking}
use Rattle.contest_store_sqlite.proofs.CallLemmas.{any_err, any_ok}
use Rattle.contest_store_sqlite.proofs.LaterSteps.{Reads}

one_content : (table : LaterTable) (rows more : TableRows) → Lacking table rows ≡ Lacking table more → rows ≡ more
one_content table rows more h = cc h

-- where both lack, one is made after the other
pub both_made : (x : Unit {0}) (r : Result (Unit {0}) StoreError) (old mid new : State) (b m a : Counts) → Step (Ok x) old mid b m (FullLacking Cells) (HasLater Cells) (MakesNone old (FullLacking Cells))
    → Step r mid new m a (FullLacking Notices) (HasLater Notices) (MakesNone mid (FullLacking Notices)) → Step r old new b a (FullLacking Cells) (HasAll Cells) (MakesNone old (FullLacking Cells))
both_made x r old mid new b m a one two =
    in_turn x r old mid new b m a (FullLacking Cells) (HasLater Cells) (FullLacking Notices) (HasLater Notices) (HasAll Cells) (MakesNone old (FullLacking Cells)) (MakesNone mid (FullLacking Notices)) one two
    (λ now kept full done.
    (let rows = full.1.0 in (
      Lacking Notices rows,
      (done rows full.1.1, (rows, refl)),
      λ to more shown.
          subst (λ (all : TableRows). Within new (Showing all) kept) (one_content Cells rows more (sym full.1.1 ∙ shown)) (to rows refl),
    )))
    (λ db on none now kept full. none (Lacking Notices full.1.0) kept (on now kept full full.1.0 full.1.1, (full.1.0, refl)))
    (λ db none. none)

-- a transaction in which these rows stand, and then a step that leaves them as they are
module _ {T U : Type 0} (x : U) (r : Result T StoreError) (old mid new : State) (b m a : Counts) (From To : Holding) (left : (now kept : Content) → From old now kept → TableRows)
    (leads : (now kept : Content) → (h : From old now kept) → To mid now kept → Within mid (Showing (left now kept h)) kept)
    (ends : (now kept : Content) → (h : From old now kept) → Within new (Showing (left now kept h)) kept → To new now kept)
    (one : Call (Ok x) old mid b m From To (MakesNone old From)) (two : Reads r mid new m a) where
  early : HasCleanDisk new → HasCleanDisk mid
  early clean = omega (arith, clean, two.survives.clean)

  full : HasCleanDisk mid → (now kept : Content) → (h : From old now kept) → Full mid (Showing (left now kept h)) kept
  full clean now kept h = (leads now kept h (one.step.ok clean now kept h), (left now kept h, refl))

  pub begun_and_read : Call r old new b a From To (MakesNone old From)
  begun_and_read = record {
    step = record {
      ok = λ clean now kept h. on_ok r (λ (done : Full new (Showing (left now kept h)) kept). ends now kept h done.0) (two.ok clean (Showing (left now kept h)) kept (full (early clean) now kept h));
      err = λ clean. on_err r (λ (u : Undoes mid new Full). record { autocommit = u.autocommit; holds = λ is now kept h. u.holds is (Showing (left now kept h)) kept (full (early clean) now kept h) }) (two.err clean);
      counts = subst (λ n. CountsCall r n a) one.step.counts two.counts;
      survives = survives_then old mid new _ (MakesNone mid Full) _ (λ _ db made. made)
          (λ clean db none.
          let before : HasCleanDisk mid = omega (arith, clean, two.survives.clean) in
          (one.up before, λ now kept h. none (Showing (left now kept h)) kept (full before now kept h)))
          one.step.survives two.survives;
    };
    up = λ clean live. any_ok r (one.up (early clean) live);
    back = λ clean live. any_err r (λ _. one.up (early clean) live);
  }

-- those of a desk that lacked some
module _ {T U : Type 0} (x : U) (r : Result T StoreError) (old mid new : State) (b m a : Counts) (table : LaterTable)
    (one : Call (Ok x) old mid b m (HoldsLacking table) (HasAll table) (MakesNone old (HoldsLacking table))) (two : Reads r mid new m a) where
  pub whole_then : Call r old new b a (HoldsLacking table) (HasAll table) (MakesNone old (HoldsLacking table))
  whole_then =
      begun_and_read x r old mid new b m a (HoldsLacking table) (HasAll table) (λ now kept h. h.1.0) (λ now kept h all. all h.1.0 h.1.1)
      (λ now kept h within rows is. subst (λ (all : TableRows). Within new (Showing all) kept) (one_content table h.1.0 rows (sym h.1.1 ∙ is)) within) one two
