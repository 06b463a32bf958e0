-- The rows of a contest that is set up, inserted into empty tables.
use Rattle.std.proofs.Common.{◌≡◌, List, [], ◌∷◌, Result, Ok, ap, map, refl, sym, subst}
use Rattle.std.proofs.lemmas.List.Sorted.{IsPermutation-refl}
use Rattle.sqlite.specs.State.{State}
use Rattle.sqlite.specs.Values.{bound}
use Rattle.sqlite.proofs.StateLemmas.{survives_weaker}
use Rattle.sqlite_value.specs.Order.{Row}
use Rattle.sqlite_value.specs.declared.value.ValueRef.{ValueRef}
use Rattle.contest_types.specs.State.{FixedPart}
use Rattle.contest_store.specs.declared.store_error.StoreError.{StoreError}
use Rattle.contest_store_rows.specs.Cells.{lent}
use Rattle.contest_store_rows.specs.FixedRows.{account_row, contest_row, desk_row, items_rows}
use Rattle.contest_store_rows.specs.declared.versions.TheConstants.{VERSION}
use Rattle.contest_store_reading.specs.Spelling.{without_rows}
use Rattle.contest_store_tables.specs.Schema.{form_of}
use Rattle.contest_store_tables.specs.Steps.{Content, Full, HasFirst, HasInserted, HasMade, Holding, IsHeldAsGiven, IsWith, MakesNone, Showing, Step, Undoes, Within, with_rows}
use Rattle.contest_store_tables.specs.Tables.{TableRows}
use Rattle.contest_store_tables.specs.declared.counts.Counts.{Counts}
use Rattle.contest_store_tables.specs.declared.table_name.TableName.{TableName}
use Rattle.contest_store_tables.specs.declared.table_name.TableName.TheVariants.{Desk, Contest}
use Rattle.contest_store_tables.proofs.HoldLemmas.{on_err, on_ok}
use Rattle.contest_store_tables.proofs.StepLemmas.{in_turn}
use Rattle.contest_store_changes.specs.ContestTables.{table_rows}
use Rattle.contest_store_changes.proofs.BoundRows.{bound_as, contest_unreal, desk_unreal}
use Rattle.contest_store_changes.proofs.HeldRows.{contest_given, desk_given}
use Rattle.contest_store_changes.proofs.OneMoreRow.{same_tables}
use Rattle.contest_store_sqlite.specs.Creation.{HasContest, HasHeadAlone, HasNoRow}

-- a step from what leads to its own start
from_more : {T : Type 0} (r : Result T StoreError) (old new : State) (b a : Counts) (From More To To2 : Holding)
    → ((now kept : Content) → More old now kept → From old now kept × (To new now kept → To2 new now kept))
    → Step r old new b a From To (MakesNone old From) → Step r old new b a More To2 (MakesNone old More)
from_more r old new b a From More To To2 f s = record {
  ok = λ clean now kept more. (let on = f now kept more in on_ok r on.1 (s.ok clean now kept on.0));
  err = λ clean. on_err r (λ (u : Undoes old new From). record { autocommit = u.autocommit; holds = λ is now kept more. u.holds is now kept (f now kept more).0 }) (s.err clean);
  counts = s.counts;
  survives = survives_weaker old new _ _ (λ _ db none now kept more. none now kept (f now kept more).0) s.survives;
}

abbrev no_row : TableRows
no_row name = []

-- the only row of an empty table
only_row : (name : TableName) (given row : Row) → given ≡ row → IsHeldAsGiven (form_of name) row → IsWith name given [] (row ∷ [])
only_row name given row is held = subst (λ r. IsWith name r [] (row ∷ [])) (sym is) (record { as_given = held; among = IsPermutation-refl (row ∷ []); rises = (tt, tt) })

abbrev with_desk : TableRows
with_desk = with_rows Desk (desk_row VERSION ∷ []) no_row

-- the row of the desk stands, and no other
abbrev HasDesk : Holding
HasDesk s now kept = Within s (Showing with_desk) kept

-- with that of the contest these are its rows
both_rows : (f : FixedPart) → HasHeadAlone f → with_rows Contest (contest_row f ∷ []) with_desk ≡ table_rows (without_rows f)
both_rows f alone =
    same_tables (with_rows Contest (contest_row f ∷ []) with_desk) (table_rows (without_rows f)) refl refl
    (sym (ap items_rows alone.settings)) (sym (ap (map (account_row f.settings)) alone.accounts)) refl refl refl refl refl refl refl refl

module _ (old mid : State) (b m : Counts) (desk : List ValueRef) (is : lent desk ≡ desk_row VERSION) where
  starts : (now kept : Content) → HasNoRow old now kept → Full old now kept × (HasInserted Desk (bound desk) mid now kept → HasDesk mid now kept)
  starts now kept h = (
    (h.0, (no_row, h.1)),
    λ inserted. inserted no_row (desk_row VERSION ∷ []) h.1 (only_row Desk (bound desk) (desk_row VERSION) (bound_as desk (desk_row VERSION) desk_unreal is) desk_given),
  )

  -- the row of the desk
  pub desk_inserted : {T : Type 0} (r : Result T StoreError) → Step r old mid b m Full (HasInserted Desk (bound desk)) (MakesNone old Full)
      → Step r old mid b m HasNoRow HasDesk (MakesNone old HasNoRow)
  desk_inserted r s = from_more r old mid b m Full HasNoRow (HasInserted Desk (bound desk)) HasDesk starts s

  -- and then that of the contest
  module _ (new : State) (a : Counts) (f : FixedPart) (alone : HasHeadAlone f) (contest : List ValueRef) (row_is : lent contest ≡ contest_row f) where
    then_contest : (now kept : Content) → HasDesk mid now kept
        → (between : Content) × Full mid between kept × (HasInserted Contest (bound contest) new between kept → HasContest (without_rows f) new now kept)
    then_contest now kept within = (
      Showing with_desk,
      (within, (with_desk, refl)),
      λ inserted. subst (λ rows. Within new (Showing rows) kept) (both_rows f alone)
          (inserted with_desk (contest_row f ∷ []) refl (only_row Contest (bound contest) (contest_row f) (bound_as contest (contest_row f) (contest_unreal f) row_is)
          (contest_given f))),
    )

    pub rows_inserted : {T U : Type 0} (x : T) (r : Result U StoreError) → Step (Ok x) old mid b m Full (HasInserted Desk (bound desk)) (MakesNone old Full)
        → Step r mid new m a Full (HasInserted Contest (bound contest)) (MakesNone mid Full) → Step r old new b a HasNoRow (HasContest (without_rows f)) (MakesNone old HasNoRow)
    rows_inserted x r one two =
        in_turn x r old mid new b m a HasNoRow HasDesk Full (HasInserted Contest (bound contest)) (HasContest (without_rows f)) (MakesNone old HasNoRow) (MakesNone mid Full)
        (desk_inserted (Ok x) one) two (λ now kept from. then_contest now kept)
        (λ db on none now kept from. (let next = then_contest now kept (on now kept from) in none next.0 kept next.1)) (λ db none. none)

-- tables that were made, and then these rows
pub made_with_rows : {T U : Type 0} (x : T) (r : Result U StoreError) (old mid new : State) (b m a : Counts) (f : FixedPart)
    → Step (Ok x) old mid b m (HasFirst 0) HasMade (MakesNone old (HasFirst 0))
    → Step r mid new m a HasNoRow (HasContest (without_rows f)) (MakesNone mid HasNoRow)
    → Step r old new b a (HasFirst 0) (HasContest (without_rows f)) (MakesNone old (HasFirst 0))
made_with_rows x r old mid new b m a f one two =
    in_turn x r old mid new b m a (HasFirst 0) HasMade HasNoRow (HasContest (without_rows f)) (HasContest (without_rows f)) (MakesNone old (HasFirst 0)) (MakesNone mid HasNoRow) one two
    (λ now kept from made. (Showing no_row, (made, refl), λ to. to)) (λ db on none now kept from. none (Showing no_row) kept (on now kept from, refl)) (λ db none. none)
