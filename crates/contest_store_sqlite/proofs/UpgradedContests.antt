-- What is found and left where tables of the first schema are opened or upgraded.
use Rattle.std.proofs.Common.{◌≡◌, ◌∙◌, Bool, true, false, List, [], length, map, get_or, Result, Ok, Err, Some, IsTrue, inl, inr, refl, sym, ap, subst, arith}
use Rattle.sqlite.specs.Effect.{IsDatabase}
use Rattle.sqlite.specs.Schema.{Schema}
use Rattle.sqlite.specs.State.{HasCleanDisk, State, Survives}
use Rattle.sqlite.specs.Table.{Table}
use Rattle.sqlite.proofs.StateLemmas.{survives_then, survives_weaker}
use Rattle.sqlite_value.specs.Order.{Row}
use Rattle.sqlite_catalog.specs.Listing.{IsSound as IsSoundDatabase}
use Rattle.contest_types.specs.State.{ContestState}
use Rattle.contest_store.specs.declared.store_error.StoreError.{StoreError}
use Rattle.contest_store_cells.specs.CellRows.{cell_rows}
use Rattle.contest_store_reading.specs.FixedParts.{is_desk}
use Rattle.contest_store_reading.specs.Spelling.{lists_in_version}
use Rattle.contest_store_rows.specs.declared.versions.Version.TheVariants.{First}
use Rattle.contest_store_tables.specs.Connected.{IsAtRest, IsBare, IsCelless, IsLacking, IsOfDesk}
use Rattle.contest_store_tables.specs.Numbered.{IsNumbered}
use Rattle.contest_store_tables.specs.Steps.{Call, Content, Holds, IsLive, Lacking, MakesNone, Rises, Showing, Step, with_rows}
use Rattle.contest_store_tables.specs.Tables.{TableRows, lacking, rows_in}
use Rattle.contest_store_tables.specs.declared.counts.Counts.{Counts}
use Rattle.contest_store_tables.specs.declared.later_table.LaterTable.{LaterTable}
use Rattle.contest_store_tables.specs.declared.later_table.LaterTable.TheVariants as later
use Rattle.contest_store_tables.specs.declared.table_name.TableName.TheVariants.{Desk, Accounts, Submissions, Clarifications, Cells, Notices}
use Rattle.contest_store_tables.proofs.HoldLemmas.{lacking_holds, on_ok}
use Rattle.contest_store_tables.proofs.LaterLemmas.{lacking_rows, lacks_none, rows_lacking}
use Rattle.contest_store_tables.proofs.SoundRows.{lacking_rises_in}
use Rattle.contest_store_changes.specs.ContestTables.{list_rows, loaded_tables, rows_with, table_rows}
use Rattle.contest_store_changes.specs.Upgraded.{first_listed_in, first_rows_with}
use Rattle.contest_store_changes.specs.UpgradeSteps.{FirstRows, HasUpgraded, ShowsFirst}
use Rattle.contest_store_changes.proofs.CellWriting.{same_showing}
use Rattle.contest_store_changes.proofs.CellsPassed.{put_twice}
use Rattle.contest_store_changes.proofs.UpgradedTables.{first_contests_sound}
use Rattle.contest_store_changes.proofs.WideRows.{shown_are_wide}
use Rattle.contest_store_sqlite.specs.Contests.{first_listed_in_trees}
use Rattle.contest_store_sqlite.specs.Creation.{KeepsLists}
use Rattle.contest_store_sqlite.specs.Loading.{AllRise, AreChecked}
use Rattle.contest_store_sqlite.specs.Opening.{IsOfFirst}
use Rattle.contest_store_sqlite.specs.Settling.{AreCellsOrNone, Keeps, MakesRight, Rising}
use Rattle.contest_store_sqlite.specs.Steps.{HasAll, HoldsLacking}
use Rattle.contest_store_sqlite.specs.Upgrading.{AreWide, IsUpgraded, KeepsUpgraded, MakesMoved, MakesUpgraded, MovesUp, UpgradesTables}
use Rattle.contest_store_sqlite.proofs.FoundContests.{found}
use Rattle.contest_store_sqlite.proofs.OpenedContests.{not_live}
use Rattle.contest_store_sqlite.proofs.ShownContests.{shown_is}

-- nothing is left that may not be left in any case
pub keeps_none : (old new : State) → Survives old new (λ _. ⊥) → KeepsLists old new
keeps_none old new = survives_weaker old new _ _ (λ _ db none. absurd none)

pub keeps_nothing : (old new : State) → Survives old new (λ _. ⊥) → KeepsUpgraded old new
keeps_nothing old new = survives_weaker old new _ _ (λ _ db none. absurd none)

-- the rows of a desk that lacks some, without those that it lacks
desk_kept : (table : LaterTable) (rows : TableRows) → rows_lacking table rows Desk ≡ rows Desk
desk_kept later.Cells rows = refl
desk_kept later.Notices rows = refl

first_kept : (table : LaterTable) (rows : TableRows) → first_listed_in (rows_lacking table rows) ≡ first_listed_in (with_rows Notices [] rows)
first_kept later.Cells rows = refl
first_kept later.Notices rows = refl

-- where the tables of a desk that lacks some stand outside of a transaction
module _ (old : State) (table : LaterTable) (lacks : IsLacking table old) (rests : IsTrue old.is_open → IsAtRest old) (numbered : IsNumbered old) where
  abbrev pub own : TableRows
  own = rows_in (lacking table old.now.trees)

  pub stands : HasCleanDisk old → IsTrue old.is_open → Holds old (Lacking table own) (Lacking table own)
  stands clean on = lacking_holds table old (rests on) lacks (numbered.lacking table clean on lacks)

  pub climbs : (IsTrue old.is_open → IsDatabase old.now) → HasCleanDisk old → IsTrue old.is_open → AllRise own
  climbs sound clean on = lacking_rises_in table old.now.trees (subst (λ schema. IsSoundDatabase schema old.now.trees) lacks (sound on)) (numbered.lacking table clean on lacks)

module _ (old new : State) (table : LaterTable) (lacks : IsLacking table old) where
  -- the version that is read is that of the tables
  pub first_is : (rests : IsTrue old.is_open → IsAtRest old) (sound : IsTrue old.is_open → IsDatabase old.now) (numbered : IsNumbered old) (first : Bool) → HasCleanDisk old → IsTrue old.is_open
      → ((rows : TableRows) (kept : Content) → Holds old (Lacking table rows) kept → Rises Desk (rows Desk) → first ≡ is_desk First (rows Desk)) → first ≡ true → IsOfFirst old
  first_is rests sound numbered first clean on reads is =
      let rows = own old table lacks rests numbered in
      let read = reads rows (Lacking table rows) (stands old table lacks rests numbered clean on) (climbs old table lacks rests numbered sound clean on Desk) in
      let same : rows Desk ≡ rows_in old.now.trees Desk = ap (λ (all : TableRows). all Desk) (lacking_rows table old.now.trees) ∙ desk_kept table (rows_in old.now.trees) in
      record { table = table; lacks = lacks; version = sym (ap (is_desk First) same) ∙ sym read ∙ is }

  -- and the version that stands is the one that is read
  pub first_told : (rests : IsTrue old.is_open → IsAtRest old) (sound : IsTrue old.is_open → IsDatabase old.now) (numbered : IsNumbered old) (first : Bool) → HasCleanDisk old → IsTrue old.is_open
      → ((rows : TableRows) (kept : Content) → Holds old (Lacking table rows) kept → Rises Desk (rows Desk) → first ≡ is_desk First (rows Desk)) → IsOfFirst old → first ≡ true
  first_told rests sound numbered first clean on reads is =
      let rows = own old table lacks rests numbered in
      let read = reads rows (Lacking table rows) (stands old table lacks rests numbered clean on) (climbs old table lacks rests numbered sound clean on Desk) in
      let same : rows Desk ≡ rows_in old.now.trees Desk = ap (λ (all : TableRows). all Desk) (lacking_rows table old.now.trees) ∙ desk_kept table (rows_in old.now.trees) in
      read ∙ ap (is_desk First) same ∙ is.version

  pub not_made : (outside : old.in_transaction ≡ false) (rests : IsTrue old.is_open → IsAtRest old) (numbered : IsNumbered old) → Survives old new (λ db. (IsLive old → IsTrue old.is_open) × MakesNone old (HoldsLacking table) db)
      → Survives old new (λ _. ⊥)
  not_made outside rests numbered survives =
      survives_weaker old new _ _ (λ clean db made.
      (let on = made.0 (not_live old.in_transaction outside) in
      let before : HasCleanDisk old = omega (arith, clean, survives.clean) in
      let rows = own old table lacks rests numbered in
      made.1 (Lacking table rows) (Lacking table rows) (stands old table lacks rests numbered before on, (rows, refl))))
      survives

pub not_made_then : (old mid new : State) (table : LaterTable) (lacks : IsLacking table old) (outside : old.in_transaction ≡ false) (rests : IsTrue old.is_open → IsAtRest old) (numbered : IsNumbered old)
    → Survives old mid (λ db. (IsLive old → IsTrue old.is_open) × MakesNone old (HoldsLacking table) db) → Survives mid new (λ _. ⊥) → Survives old new (λ _. ⊥)
not_made_then old mid new table lacks outside rests numbered one two =
    survives_then old mid new _ (λ _. ⊥) _ (λ _ db none. none) (λ clean db none. absurd none) (not_made old mid table lacks outside rests numbered one) two

abbrev Moves : {T : Type 0} → Result T StoreError → (old mid : State) → (b m : Counts) → ContestState → Type 0
Moves r old mid b m lists = Step r old mid b m (ShowsFirst lists) (HasUpgraded lists) (MakesNone old (ShowsFirst lists))

pub same_lists : {T : Type 0} (r : Result T StoreError) (old mid : State) (b m : Counts) (given lists : ContestState) → given ≡ lists → Moves r old mid b m given → Moves r old mid b m lists
same_lists r old mid b m given lists is moves = subst (Moves r old mid b m) is moves

-- what was moved, and then settled and committed
module _ (x : Unit {0}) (r : Result (Unit {0}) StoreError) (old mid new : State) (b m : Counts) (lists : ContestState)
    (one : Moves (Ok x) old mid b m lists) (survives : Survives mid new (MakesRight lists mid)) where
  early : HasCleanDisk new → HasCleanDisk mid
  early clean = omega (arith, clean, survives.clean)

  rising : (now kept : Content) → (u : HasUpgraded lists mid now kept) → Rising lists mid (Showing (rows_with u.0.cells u.0.contest)) kept
  rising now kept u = record {
    rows = rows_with u.0.cells u.0.contest;
    shown = refl;
    within = u.1;
    rises = u.0.rises;
    contest = u.0.contest;
    valid = u.0.sound.valid;
    held = u.0.held;
  }

  -- with its own cells
  whole : (cells : List Row) (x : ContestState) → with_rows Cells (cell_rows x) (rows_with cells x) ≡ table_rows x
  whole cells x = put_twice Cells cells (cell_rows x) (list_rows x)

  pub moves_up : Keeps r lists mid new → MovesUp r lists old new
  unfolding rising
  moves_up keeps clean now kept from =
      let u = one.ok (early clean) now kept from in
      on_ok r (λ done. (u.0, done.0, subst (λ (all : TableRows). Holds new (Showing all) (Showing all)) (whole u.0.cells u.0.contest) done.1)) (keeps clean (Showing (rows_with u.0.cells u.0.contest)) kept (rising now kept u))

  pub makes_moved : Survives old new (MakesMoved lists old)
  unfolding rising
  makes_moved =
      survives_then old mid new _ (MakesRight lists mid) (MakesMoved lists old) (λ _ db none now kept from. absurd (none now kept from))
      (λ clean db made now kept from.
      (let u = one.ok (omega (arith, clean, survives.clean)) now kept from in
      let it = made (Showing (rows_with u.0.cells u.0.contest)) kept (rising now kept u) in
      (u.0, it.0, it.1 ∙ whole u.0.cells u.0.contest)))
      one.survives survives

pub moved_none : (e : StoreError) (old new : State) (b a : Counts) (lists : ContestState) → Moves {T = Unit {0}} (Err e) old new b a lists
    → Survives old new (MakesMoved lists old)
moved_none e old new b a lists one = survives_weaker old new _ _ (λ _ db none now kept from. absurd (none now kept from)) one.survives

-- lists that were read in the first schema, in a transaction, and moved
module _ {T : Type 0} (x : T) (old mid new : State) (b m : Counts) (table : LaterTable) (lists : ContestState)
    (one : Call (Ok x) old mid b m (HoldsLacking table) (HasAll table) (MakesNone old (HoldsLacking table)))
    (are : HasCleanDisk mid → (rows : TableRows) (kept : Content) → Holds old (Lacking table rows) kept → AllRise rows → lists_in_version First (loaded_tables rows) ≡ Some lists)
    (checked : AreChecked lists) (survives : Survives mid new (MakesMoved lists mid)) where
  before : HasCleanDisk new → HasCleanDisk mid
  before clean = omega (arith, clean, survives.clean)

  showing : (clean : HasCleanDisk mid) (rows : TableRows) (kept : Content) → Holds old (Lacking table rows) kept → AllRise rows → AreWide rows → ShowsFirst lists mid (Showing rows) kept
  showing clean rows kept holds up wide =
      let f = found First rows lists (are clean rows kept holds up) checked in
      let own = first_contests_sound rows f.contest (up Accounts) wide.submissions wide.clarifications f.kinds f.read in (
        record {
          cells = rows Cells;
          contest = f.contest;
          shown = ap (λ (all : TableRows). Showing all) (sym own.1);
          sound = own.0;
          found = ap first_listed_in own.1 ∙ f.read;
          held = f.held;
          rises = up Cells;
        },
        one.step.ok clean (Lacking table rows) kept (holds, (rows, refl)) rows refl,
      )

  -- these rows spell that contest
  spelled : (rows : TableRows) (g : FirstRows lists (Showing rows)) → first_listed_in rows ≡ Some g.contest
  spelled rows g = ap first_listed_in (same_showing rows (first_rows_with g.cells g.contest) g.shown) ∙ g.found

  -- and the cells are those that stood
  own_cells : (rows : TableRows) (g : FirstRows lists (Showing rows)) → AreCellsOrNone g.cells g.contest → AreCellsOrNone (rows Cells) g.contest
  own_cells rows g = subst (λ (cells : List Row). AreCellsOrNone cells g.contest) (sym (ap (λ (all : TableRows). all Cells) (same_showing rows (first_rows_with g.cells g.contest) g.shown)))

  pub upgrades_tables : (r : Result (Unit {0}) StoreError) → MovesUp r lists mid new → UpgradesTables r table old new
  upgrades_tables r moves clean rows kept holds up wide =
      on_ok r (λ done. (done.0.contest, spelled rows done.0, done.0.sound, own_cells rows done.0 done.1, done.2)) (moves clean (Showing rows) kept (showing (before clean) rows kept holds up wide))

  pub makes_upgraded : Survives old new (MakesUpgraded table old)
  makes_upgraded =
      survives_then old mid new _ (MakesMoved lists mid) (MakesUpgraded table old)
      (λ _ db none. (none.0, λ rows kept holds up wide. absurd (none.1 (Lacking table rows) kept (holds, (rows, refl)))))
      (λ clean db made.
      (let after : HasCleanDisk mid = omega (arith, clean, survives.clean) in
      (one.up after, λ rows kept holds up wide. (let it = made (Showing rows) kept (showing after rows kept holds up wide) in (it.0.contest, spelled rows it.0, it.0.sound, own_cells rows it.0 it.1, it.2)))))
      one.step.survives survives

-- where no valid contest was found nothing is made
pub upgrades_none : (table : LaterTable) (old new : State) → Survives old new (λ db. (IsLive old → IsTrue old.is_open) × MakesNone old (HoldsLacking table) db) → Survives old new (MakesUpgraded table old)
upgrades_none table old new survives =
    survives_weaker old new _ _ (λ _ db none. (none.0, λ rows kept holds up wide. absurd (none.1 (Lacking table rows) kept (holds, (rows, refl))))) survives

pub upgrades_none_then : (table : LaterTable) (old mid new : State) → Survives old mid (λ db. (IsLive old → IsTrue old.is_open) × MakesNone old (HoldsLacking table) db) → Survives mid new (λ _. ⊥)
    → Survives old new (MakesUpgraded table old)
upgrades_none_then table old mid new one two =
    upgrades_none table old new (survives_then old mid new _ (λ _. ⊥) _ (λ _ db none. none) (λ clean db none. absurd none) one two)

-- what was filled was not upgraded
pub keeps_filled : (old new : State) → KeepsLists old new → KeepsUpgraded old new
keeps_filled old new = survives_weaker old new _ _ (λ _ db filled. inl filled)

-- the tables of a desk that lacks some, outside of a transaction
module _ (old new : State) (table : LaterTable) (lacks : IsLacking table old) (outside : old.in_transaction ≡ false) (rests : IsTrue old.is_open → IsAtRest old) (sound : IsTrue old.is_open → IsDatabase old.now)
    (numbered : IsNumbered old) (survives : Survives old new (MakesUpgraded table old)) where
  abbrev rows : TableRows
  rows = own old table lacks rests numbered

  wide : AreWide rows
  wide = record { submissions = shown_are_wide (lacking table old.now.trees) Submissions; clarifications = shown_are_wide (lacking table old.now.trees) Clarifications }

  listed : first_listed_in_trees old.now.trees ≡ first_listed_in rows
  listed = sym (ap first_listed_in (lacking_rows table old.now.trees) ∙ first_kept table (rows_in old.now.trees))

  pub is_upgraded : (x : Unit {0}) → (HasCleanDisk new → IsLive old → IsTrue old.is_open) → UpgradesTables (Ok x) table old new → HasCleanDisk new → IsUpgraded old new
  is_upgraded x up upgrades clean =
      let on = up clean (not_live old.in_transaction outside) in
      let early : HasCleanDisk old = omega (arith, clean, survives.clean) in
      let it = upgrades clean rows (Lacking table rows) (stands old table lacks rests numbered early on) (climbs old table lacks rests numbered sound early on) wide in
      record { contest = it.0; table = table; lacked = lacks; found = listed ∙ it.1; cells = it.3; holds = record { sound = it.2; was_sound = it.2; holds = it.4 } }

  pub keeps_upgraded : KeepsUpgraded old new
  keeps_upgraded =
      survives_weaker old new _ _ (λ clean db made.
      (let on = made.0 (not_live old.in_transaction outside) in
      let early : HasCleanDisk old = omega (arith, clean, survives.clean) in
      let it = made.1 rows (Lacking table rows) (stands old table lacks rests numbered early on) (climbs old table lacks rests numbered sound early on) wide in
      inr (it.0, listed ∙ it.1, (table, lacks, it.3), shown_is db it.0 it.2 it.4)))
      survives

-- tables that are of the first schema are none of these
pub not_of_desk : (s : State) → IsOfFirst s → IsOfDesk s → ⊥
not_of_desk s first desk = lacks_none first.table s.now.schema desk first.lacks

pub not_celless : (s : State) → IsOfFirst s → (place : LaterTable) × IsCelless place s → ⊥
not_celless s first is = go first.table first.lacks
  where
    go : (table : LaterTable) → IsLacking table s → ⊥
    go later.Cells lacks = let same : 10 ≡ 11 = ap (λ (it : Schema). length it.tables) (sym lacks ∙ is.1) in omega (arith, same)
    go later.Notices lacks = let same : 7 ≡ 11 = ap (λ (it : Schema). get_or (map (λ (t : Table). length t.columns) it.tables) 10 0) (sym lacks ∙ is.1) in omega (arith, same)

pub not_bare : (s : State) → IsOfFirst s → IsBare s → ⊥
not_bare s first is = go first.table first.lacks
  where
    go : (table : LaterTable) → IsLacking table s → ⊥
    go later.Cells lacks = let same : 10 ≡ 0 = ap (λ (it : Schema). length it.tables) (sym lacks ∙ is) in omega (arith, same)
    go later.Notices lacks = let same : 11 ≡ 0 = ap (λ (it : Schema). length it.tables) (sym lacks ∙ is) in omega (arith, same)
