-- What is found where the tables of a desk are read whose table of the cells was taken out, and what is made of them.
use Rattle.std.proofs.Common.{◌≡◌, ◌∙◌, List, [], length, Result, Ok, Some, IfOk, inl, refl, sym, ap, subst, arith}
use Rattle.std.specs.List.{AllByRecursion}
use Rattle.std.proofs.lemmas.List.{take_all}
use Rattle.sqlite.specs.State.{HasCleanDisk, State, Survives}
use Rattle.sqlite.proofs.StateLemmas.{survives_then, survives_weaker}
use Rattle.contest_types.specs.State.{ContestState}
use Rattle.contest_types.specs.declared.clarification.Clarification.{Clarification}
use Rattle.contest_store.specs.declared.store_error.StoreError.{StoreError}
use Rattle.contest_store_reading.specs.Spelling.{lists_in_version}
use Rattle.contest_store_rows.specs.Cells.{numbered}
use Rattle.contest_store_rows.specs.ListRows.{clarification_row}
use Rattle.contest_store_rows.specs.declared.versions.TheConstants.{VERSION}
use Rattle.contest_store_tables.specs.Celless.{FullCelless, HasDropped}
use Rattle.contest_store_tables.specs.Steps.{Call, Celless, Content, FullLacking, Holds, Lacking, MakesNone, Showing, Step, Within, with_rows}
use Rattle.contest_store_tables.specs.Tables.{TableRows, with_cells_back}
use Rattle.contest_store_tables.specs.declared.counts.Counts.{Counts}
use Rattle.contest_store_tables.specs.declared.later_table.LaterTable.TheVariants as later
use Rattle.contest_store_tables.specs.declared.table_name.TableName.TheVariants.{Desk, Contest, Items, Accounts, Submissions, Proposals, Releases, Rejudgings, Members, Clarifications, Cells, Notices}
use Rattle.contest_store_tables.proofs.HoldLemmas.{on_ok}
use Rattle.contest_store_tables.proofs.StepLemmas.{in_turn}
use Rattle.contest_store_changes.specs.ContestTables.{loaded_tables}
use Rattle.contest_store_changes.specs.Laws.{IsWide}
use Rattle.contest_store_changes.specs.UpgradeSteps.{HasMoved, ShowsNoticeless, with_notices}
use Rattle.contest_store_changes.proofs.CellsPassed.{put_twice}
use Rattle.contest_store_changes.proofs.UpgradeLemmas.{notices_same}
use Rattle.contest_store_changes.proofs.ValidSound.{listed_sound}
use Rattle.contest_store_changes.proofs.WideRows.{shown_are_wide}
use Rattle.contest_store_sqlite.specs.Celless.{Emptied, HasEmptied, HoldsCelless, MakesBack, PutsBack}
use Rattle.contest_store_sqlite.specs.Loading.{AllRise, AreChecked}
use Rattle.contest_store_sqlite.specs.Settling.{Keeps, MakesRight, MakesRightOfTables, ReadsTables, Rising}
use Rattle.contest_store_sqlite.specs.Steps.{HasAll}
use Rattle.contest_store_sqlite.proofs.FoundContests.{Found, found}
use Rattle.contest_store_sqlite.proofs.LaterSteps.{Reads}
use Rattle.contest_store_sqlite.proofs.OpenedContests.{if_kept}
use Rattle.contest_store_sqlite.proofs.WholeTables.{begun_and_read}

same_celless : (rows more : TableRows) → Celless rows ≡ Celless more → rows ≡ more
same_celless rows more h = cc h

-- the table of the notices is taken out, and then both are made
pub made_anew : (x : Unit {0}) (r : Result (Unit {0}) StoreError) (old mid new : State) (b m a : Counts) → Step (Ok x) old mid b m FullCelless HasDropped (MakesNone old FullCelless)
    → Step r mid new m a (FullLacking later.Cells) (HasAll later.Cells) (MakesNone mid (FullLacking later.Cells)) → Step r old new b a FullCelless HasEmptied (MakesNone old FullCelless)
made_anew x r old mid new b m a one two =
    in_turn x r old mid new b m a FullCelless HasDropped (FullLacking later.Cells) (HasAll later.Cells) HasEmptied (MakesNone old FullCelless) (MakesNone mid (FullLacking later.Cells)) one two
    (λ now kept full done.
    (let rows = full.1.0 in
    let less = with_rows Notices [] rows in (
      Lacking later.Cells less,
      (done rows full.1.1, (less, refl)),
      λ to more shown.
          subst (λ (all : TableRows). Within new (Showing (with_rows Notices [] all)) kept) (same_celless rows more (sym full.1.1 ∙ shown)) (to less refl),
    )))
    (λ db on none now kept full. none (Lacking later.Cells (with_rows Notices [] full.1.0)) kept (on now kept full full.1.0 full.1.1, (with_rows Notices [] full.1.0, refl)))
    (λ db none. none)

-- and then a step that leaves the tables as they are
pub emptied_then : {T U : Type 0} (x : U) (r : Result T StoreError) (old mid new : State) (b m a : Counts) → Call (Ok x) old mid b m HoldsCelless HasEmptied (MakesNone old HoldsCelless) → Reads r mid new m a
    → Call r old new b a HoldsCelless HasEmptied (MakesNone old HoldsCelless)
emptied_then x r old mid new b m a one two =
    begun_and_read x r old mid new b m a HoldsCelless HasEmptied (λ now kept h. with_rows Notices [] h.1.0) (λ now kept h all. all h.1.0 h.1.1)
    (λ now kept h within rows is. subst (λ (all : TableRows). Within new (Showing (with_rows Notices [] all)) kept) (same_celless h.1.0 rows (sym h.1.1 ∙ is)) within) one two

-- what rises does so without the notices too
pub less_rise : (rows : TableRows) → AllRise rows → AllRise (with_rows Notices [] rows)
less_rise rows up Desk = up Desk
less_rise rows up Contest = up Contest
less_rise rows up Items = up Items
less_rise rows up Accounts = up Accounts
less_rise rows up Submissions = up Submissions
less_rise rows up Proposals = up Proposals
less_rise rows up Releases = up Releases
less_rise rows up Rejudgings = up Rejudgings
less_rise rows up Members = up Members
less_rise rows up Clarifications = up Clarifications
less_rise rows up Cells = up Cells
less_rise rows up Notices = tt

-- lists that were read in a transaction, whose clarifications stand as notices again, and whose cells were settled and committed
module _ {T : Type 0} (x : T) (old mid new : State) (b m : Counts) (lists : ContestState)
    (one : Call (Ok x) old mid b m HoldsCelless HasEmptied (MakesNone old HoldsCelless))
    (are : HasCleanDisk mid → (rows : TableRows) (kept : Content) → Holds old (Celless rows) kept → AllRise rows → lists_in_version VERSION (loaded_tables rows) ≡ Some lists)
    (checked : AreChecked lists) (survives : Survives mid new (MakesBack lists mid)) where
  early : HasCleanDisk new → HasCleanDisk mid
  early clean = omega (arith, clean, survives.clean)

  its : HasCleanDisk mid → (rows : TableRows) (kept : Content) → Holds old (Celless rows) kept → AllRise rows → Found VERSION rows lists
  its clean rows kept holds up = found VERSION rows lists (are clean rows kept holds up) checked

  wide : (rows : TableRows) (kept : Content) → Holds old (Celless rows) kept → AllByRecursion (IsWide Submissions) (rows Submissions)
  wide rows kept holds = subst (λ (all : TableRows). AllByRecursion (IsWide Submissions) (all Submissions)) holds.shows.2 (shown_are_wide (with_cells_back holds.shows.0 old.now.trees) Submissions)

  emptied : (clean : HasCleanDisk mid) (rows : TableRows) (kept : Content) → (holds : Holds old (Celless rows) kept) → (up : AllRise rows) → Emptied lists mid (Showing (with_rows Notices [] rows)) kept
  emptied clean rows kept holds up =
      let f = its clean rows kept holds up in
      let own = listed_sound rows f.contest (up Accounts) (wide rows kept holds) f.kinds f.read in
      record {
        rows = rows;
        shown = refl;
        within = one.step.ok clean (Celless rows) kept (holds, (rows, refl)) rows refl;
        rises = up Cells;
        contest = f.contest;
        valid = f.valid;
        sound = own.0;
        held = f.held;
        spelled = sym (ap (λ (all : TableRows). all Notices) own.1) ∙ ap (λ (y : ContestState). numbered (clarification_row y.fixed.settings) y.clarifications) f.held;
      }

  none_there : (rows : TableRows) (kept : Content) → Holds old (Celless rows) kept → rows Cells ≡ []
  none_there rows kept holds = ap (λ (all : TableRows). all Cells) (sym holds.shows.2)

  pub reads_celless : (r : Result ContestState StoreError) → IfOk r (λ kept. kept ≡ lists) → PutsBack r lists mid new → ReadsTables Celless r old new
  unfolding its emptied
  reads_celless r same puts clean rows kept holds up =
      let h = emptied (early clean) rows kept holds up in
      let f = its (early clean) rows kept holds up in
      if_kept r _ same (puts clean (Showing (with_rows Notices [] rows)) kept h) (λ done own is. (f.contest, f.read, f.kinds, inl (none_there rows kept holds), is ∙ sym f.held, done))

  pub makes_celless : Survives old new (MakesRightOfTables Celless old)
  unfolding its emptied
  makes_celless =
      survives_then old mid new _ (MakesBack lists mid) (MakesRightOfTables Celless old)
      (λ _ db none. (none.0, λ rows kept holds up. absurd (none.1 (Celless rows) kept (holds, (rows, refl)))))
      (λ clean db made. (
        one.up (early clean),
        λ rows kept holds up.
            (let f = its (early clean) rows kept holds up in
            (f.contest, f.read, f.kinds, inl (none_there rows kept holds), made (Showing (with_rows Notices [] rows)) kept (emptied (early clean) rows kept holds up))),
      ))
      one.step.survives survives

-- notices that were put back, and cells that were settled then
module _ (lists : ContestState) where
  noticeless : (s : State) (now kept : Content) → Emptied lists s now kept → ShowsNoticeless lists s now kept
  noticeless s now kept h = (record { rows = with_rows Notices [] h.rows; contest = h.contest; shown = h.shown; none = refl; sound = h.sound; held = h.held }, h.within)

  all_back : (rows : TableRows) → rows Notices ≡ numbered (clarification_row lists.fixed.settings) lists.clarifications → with_notices lists (length lists.clarifications) (with_rows Notices [] rows) ≡ rows
  all_back rows spelled =
      let all = numbered (clarification_row lists.fixed.settings) lists.clarifications in
      ap (λ (cs : List Clarification). with_rows Notices (numbered (clarification_row lists.fixed.settings) cs) (with_rows Notices [] rows)) (take_all (length lists.clarifications) lists.clarifications (omega arith))
      ∙ put_twice Notices [] all rows ∙ notices_same all rows spelled

  module _ {T : Type 0} (x : Unit {0}) (r : Result T StoreError) (old mid new : State) (b m : Counts)
      (one : Step (Ok x) old mid b m (ShowsNoticeless lists) (HasMoved lists (length lists.clarifications)) (MakesNone old (ShowsNoticeless lists))) (survives : Survives mid new (MakesRight lists mid)) where
    before : HasCleanDisk new → HasCleanDisk mid
    before clean = omega (arith, clean, survives.clean)

    rising : (clean : HasCleanDisk mid) (now kept : Content) → (h : Emptied lists old now kept) → Rising lists mid (Showing h.rows) kept
    rising clean now kept h = record {
      rows = h.rows;
      shown = refl;
      within = subst (λ (rows : TableRows). Within mid (Showing rows) kept) (all_back h.rows h.spelled) (one.ok clean now kept (noticeless old now kept h) (with_rows Notices [] h.rows) h.shown);
      rises = h.rises;
      contest = h.contest;
      valid = h.valid;
      held = h.held;
    }

    pub puts_back : Keeps r lists mid new → PutsBack r lists old new
    unfolding rising
    puts_back keeps clean now kept h = on_ok r (λ done. done.1) (keeps clean (Showing h.rows) kept (rising (before clean) now kept h))

    pub makes_back : Survives old new (MakesBack lists old)
    unfolding rising
    makes_back =
        survives_then old mid new _ (MakesRight lists mid) (MakesBack lists old) (λ _ db none now kept h. absurd (none now kept (noticeless old now kept h)))
        (λ clean db made now kept h. (made (Showing h.rows) kept (rising (omega (arith, clean, survives.clean)) now kept h)).1)
        one.survives survives

  pub back_none : (old new : State) → Survives old new (MakesNone old (ShowsNoticeless lists)) → Survives old new (MakesBack lists old)
  back_none old new survives = survives_weaker old new _ _ (λ _ db none now kept h. absurd (none now kept (noticeless old now kept h))) survives
