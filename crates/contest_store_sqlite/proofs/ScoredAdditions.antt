-- A change of the lists, and then of the cells that it bears on, is the change of the contest.
use Rattle.std.proofs.Common.{◌≡◌, ◌∙◌, true, List, Result, Ok, Err, IfOk, Some, refl, sym, ap, subst}
use Rattle.sqlite.specs.State.{State}
use Rattle.sqlite_value.specs.Order.{Row}
use Rattle.contest_lists.specs.Lists.{loaded}
use Rattle.contest_types.specs.Addable.{is_addable}
use Rattle.contest_types.specs.State.{ContestState, add}
use Rattle.contest_types.specs.declared.entry.Entry.{Entry}
use Rattle.contest_store.specs.declared.store_error.StoreError.{StoreError}
use Rattle.contest_store_tables.specs.Steps.{Content, MakesNone, Showing, Step, Within}
use Rattle.contest_store_tables.specs.declared.counts.Counts.{Counts}
use Rattle.contest_store_tables.proofs.StepLemmas.{in_turn}
use Rattle.contest_store_cells.specs.CellRows.{cell_rows}
use Rattle.contest_store_changes.specs.Additions.{Admits, HasAdded, HasListed}
use Rattle.contest_store_changes.specs.CellSteps.{HasScored, Scores}
use Rattle.contest_store_changes.specs.ContestTables.{rows_with, table_rows, valid_listed_in}
use Rattle.contest_store_changes.specs.Kinds.{IsOfKinds}
use Rattle.contest_store_changes.specs.Sound.{IsSound}
use Rattle.contest_store_changes.proofs.SoundAdditions.{additions_stay_sound}
use Rattle.contest_store_changes.proofs.SoundReadings.{sound_listed_reads_back}
use Rattle.contest_store_changes.proofs.CellWriting.{same_showing}

-- tables show one contest, whatever the cells
same_listed : (cells more : List Row) (x y : ContestState) → IsSound x → IsSound y → rows_with cells x ≡ rows_with more y → x ≡ y
same_listed cells more x y one two same =
    let both : Some x ≡ Some y = sym (sound_listed_reads_back cells x one) ∙ ap valid_listed_in same ∙ sound_listed_reads_back more y two in
    cc both

module _ {T U : Type 0} (given : T) (r : Result U StoreError) (old mid new : State) (b m a : Counts) (lists next : ContestState) (e : Entry) (kinds : IsOfKinds e)
    (grown : (x : ContestState) → loaded x ≡ lists → is_addable x e ≡ true → next ≡ loaded (add x e))
    (one : Step {T = T} (Ok given) old mid b m (Admits lists e) (HasListed lists e) (MakesNone old (Admits lists e))) (two : Step r mid new m a (Scores next e) (HasScored e) (MakesNone mid (Scores next e))) where
  -- what the tables show between the rows of the lists and those of the cells
  abbrev between : ContestState → Content
  between x = Showing (rows_with (cell_rows x) (add x e))

  scores : (now kept : Content) → (from : Admits lists e old now kept) → HasListed lists e mid now kept → Scores next e mid (between from.contest) kept
  scores now kept from h =
      let x = from.contest in
      let same : h.contest ≡ x = same_listed (cell_rows h.contest) (cell_rows x) h.contest x h.sound from.sound (same_showing (table_rows h.contest) (table_rows x) (sym h.shown ∙ from.shown)) in
      record {
        contest = x;
        shown = refl;
        sound = from.sound;
        may = from.may;
        after = additions_stay_sound x e from.sound from.may kinds;
        held = sym (grown x from.held from.may);
        within = subst (λ (y : ContestState). Within mid (between y) kept) same h.within;
      }

  ends : (now kept : Content) → (from : Admits lists e old now kept) → HasScored e new (between from.contest) kept → HasAdded lists e new now kept
  ends now kept from done =
      let x = from.contest in
      let z = done.contest in
      let after = additions_stay_sound x e from.sound from.may kinds in
      let same : add z e ≡ add x e = same_listed (cell_rows z) (cell_rows x) (add z e) (add x e) done.after after (sym (same_showing (rows_with (cell_rows x) (add x e)) (rows_with (cell_rows z) (add z e)) done.shown)) in
      record { contest = x; shown = from.shown; sound = from.sound; after = after; held = from.held; within = subst (λ (y : ContestState). Within new (Showing (table_rows y)) kept) same done.within }

  pub added_and_scored : Step r old new b a (Admits lists e) (HasAdded lists e) (MakesNone old (Admits lists e))
  added_and_scored =
      in_turn given r old mid new b m a (Admits lists e) (HasListed lists e) (Scores next e) (HasScored e) (HasAdded lists e) (MakesNone old (Admits lists e)) (MakesNone mid (Scores next e)) one two
      (λ now kept from h. (between from.contest, scores now kept from h, λ done. ends now kept from done))
      (λ db on none now kept from. none (between from.contest) kept (scores now kept from (on now kept from)))
      (λ db none. none)

-- what is given up where the lists were changed in the tables
pub listed_within : (lists : ContestState) (e : Entry) (s : State) (now kept : Content) → HasListed lists e s now kept → (between : Content) × Within s between kept
listed_within lists e s now kept h = (Showing (rows_with (cell_rows h.contest) (add h.contest e)), h.within)

-- lists that were kept as they are
pub kept_as : (r : Result ContestState StoreError) (lists next : ContestState) → IfOk r (λ kept. kept ≡ lists) → lists ≡ next → IfOk r (λ kept. kept ≡ next)
kept_as (Ok kept) lists next same is = same ∙ is
kept_as (Err e) lists next same is = tt
