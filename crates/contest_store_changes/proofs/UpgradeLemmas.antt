-- The clarifications are moved one after the other, and the first schema is left.
use Rattle.std.proofs.Common.{◌≡◌, ◌∙◌, ◌+◌, ◌<◌, ◌≤◌, ◌^◌, ℕ, true, List, [], ◌∷◌, ◌++◌, length, map, take, slice_index_or, Result, Ok, refl, sym, ap, subst, arith}
use Rattle.std.specs.List.{list_all}
use Rattle.std.proofs.lemmas.List.Elements.{All-cons, All-nil}
use Rattle.std.proofs.lemmas.List.{length-take-le, take_all, take_more}
use Rattle.sqlite.specs.State.{State}
use Rattle.sqlite_value.specs.Order.{Row}
use Rattle.contest_lists.specs.Lists.{loaded}
use Rattle.contest_types.specs.State.{ContestState}
use Rattle.contest_types.specs.ValidClarifications.{is_an_addressee, is_valid_clarification}
use Rattle.contest_types.specs.declared.clarification.Clarification.{Clarification}
use Rattle.contest_types.proofs.PlaceLemmas.{and_left}
use Rattle.contest_types.proofs.ValidParts.{parts}
use Rattle.contest_store.specs.declared.store_error.StoreError.{StoreError}
use Rattle.contest_store_rows.specs.Cells.{numbered}
use Rattle.contest_store_rows.specs.FixedRows.{desk_row}
use Rattle.contest_store_rows.specs.ListRows.{audience_number, clarification_row}
use Rattle.contest_store_rows.specs.Tables.{notices_rows}
use Rattle.contest_store_rows.specs.declared.versions.Version.TheVariants.{First, Second}
use Rattle.contest_store_rows.proofs.ListLaws.{one_more}
use Rattle.contest_store_tables.specs.Changes.{HasChanged, IsHeld, change_row, changed_row}
use Rattle.contest_store_tables.specs.Clearing.{HasCleared}
use Rattle.contest_store_tables.specs.Schema.{form_of}
use Rattle.contest_store_tables.specs.Steps.{Content, Full, Holding, IsWith, MakesNone, Showing, Step, Within, with_rows}
use Rattle.contest_store_tables.specs.Tables.{TableRows}
use Rattle.contest_store_tables.specs.declared.counts.Counts.{Counts}
use Rattle.contest_store_tables.specs.declared.row_change.RowChange.TheVariants as row_change
use Rattle.contest_store_tables.specs.declared.table_name.TableName.TheVariants.{Desk, Clarifications, Notices}
use Rattle.contest_store_tables.proofs.StepLemmas.{in_turn, leaves, no_step}
use Rattle.contest_store_changes.specs.Sound.{IsSound}
use Rattle.contest_store_changes.specs.Upgraded.{first_rows_with}
use Rattle.contest_store_changes.specs.UpgradeSteps.{FirstRows, HasLeft, HasMoved, HasNotice, HasUpgraded, HasVersion, ShowsFirst, ShowsNoticeless, with_notices}
use Rattle.contest_store_changes.proofs.CellWriting.{narrowed, same_showing}
use Rattle.contest_store_changes.proofs.CellsPassed.{put_twice}
use Rattle.contest_store_changes.proofs.FittingNumbers.{each_passes, few_addressees}
use Rattle.contest_store_changes.proofs.HeldRows.{clarification_given, desk_fits, held}
use Rattle.contest_store_changes.proofs.NamedReplies.{small_number, small_addressee}
use Rattle.contest_store_changes.proofs.OneMoreRow.{at_end}
use Rattle.contest_store_changes.proofs.RisingLists.{lower_number, rows_rise}
use Rattle.contest_store_changes.proofs.RisingRows.{BelowIn}
use Rattle.contest_store_changes.proofs.SameNumbers.{same_number}
use Rattle.contest_store_changes.proofs.UpgradedTables.{first_rows_upgraded}
use Rattle.std.specs.declared.cmp.Ordering.TheVariants.{Equal}
use Rattle.std.specs.Prelude.{Bool, ◌&&◌, if◌then◌else◌}
use Rattle.contest_store_changes.proofs.OneMoreRow.{same_tables}

-- the clarifications of the contest are those of its lists
same_clarifications : (lists x : ContestState) → loaded x ≡ lists → x.clarifications ≡ lists.clarifications
same_clarifications lists x held = ap (λ (y : ContestState). y.clarifications) held

-- cells hold the numbers of a clarification that stands
stands_fit : (x : ContestState) (c : Clarification) → IsSound x → ((q : Clarification → Bool) → list_all q x.clarifications ≡ true → q c ≡ true) → (audience_number c.addressee < 2 ^ 63) × (c.number + 1 < 2 ^ 63)
stands_fit x c sound with_all =
    let few = few_addressees x sound in
    let whole = (parts x sound.valid).clarifications in
    let valid : is_valid_clarification x c ≡ true = with_all (is_valid_clarification x) (and_left _ _ (and_left _ _ whole)) in
    let addressed : is_an_addressee x.fixed c.addressee ≡ true = and_left _ _ (and_left _ _ (and_left _ _ (and_left _ _ valid))) in
    let to = small_addressee x.fixed c.addressee few addressed in
    let low = small_number x few whole c with_all in
    (omega (arith, to), omega (arith, low))

-- the rows of the first so many
abbrev rows_of_first : ContestState → ℕ → List Row
rows_of_first lists n = numbered (clarification_row lists.fixed.settings) (take n lists.clarifications)

module _ (lists : ContestState) (place : ℕ) (c : Clarification) (low : place < length lists.clarifications) (is : c ≡ slice_index_or lists.clarifications place c) where
  next_taken : take (place + 1) lists.clarifications ≡ take place lists.clarifications ++ c ∷ []
  next_taken = take_more lists.clarifications place c low ∙ ap (λ (d : Clarification). take place lists.clarifications ++ d ∷ []) (sym is)

  next_row : rows_of_first lists (place + 1) ≡ rows_of_first lists place ++ clarification_row lists.fixed.settings (place + 1) c ∷ []
  next_row =
      let s = lists.fixed.settings in
      let count : length (take place lists.clarifications) ≡ place = length-take-le place lists.clarifications (omega (arith, low)) in
      ap (numbered (clarification_row s)) next_taken ∙ one_more (clarification_row s) 1 (take place lists.clarifications) c
      ∙ ap (λ n. rows_of_first lists place ++ clarification_row s (n + 1) c ∷ []) count

  next_is_with : IsWith Notices (clarification_row lists.fixed.settings (place + 1) c) (rows_of_first lists place) (rows_of_first lists (place + 1))
  next_is_with = record {
    as_given = clarification_given lists.fixed.settings (place + 1) c;
    among = at_end (clarification_row lists.fixed.settings (place + 1) c) (rows_of_first lists place) (rows_of_first lists (place + 1)) next_row;
    rises = rows_rise (BelowIn Notices) (clarification_row lists.fixed.settings) (λ m n a b l. lower_number m n Equal l) 1 (take (place + 1) lists.clarifications);
  }

  all_pass : (x : ContestState) → loaded x ≡ lists → (q : Clarification → Bool) → list_all q x.clarifications ≡ true → q c ≡ true
  all_pass x held q all =
      subst (λ (d : Clarification). q d ≡ true) (sym is) (each_passes q lists.clarifications place c low (subst (λ (cs : List Clarification). list_all q cs ≡ true) (same_clarifications lists x held) all))

  module _ (r : Result (Unit {0}) StoreError) (old mid new : State) (b m a : Counts)
      (one : Step {T = Unit {0}} (Ok tt) old mid b m (ShowsNoticeless lists) (HasMoved lists place) (MakesNone old (ShowsNoticeless lists)))
      (two : Step r mid new m a Full (HasNotice lists.fixed.settings place c) (MakesNone mid Full)) where
    abbrev between : (now kept : Content) → ShowsNoticeless lists old now kept → TableRows
    between now kept from = with_notices lists place from.0.rows

    moved_on : (now kept : Content) → (from : ShowsNoticeless lists old now kept) → HasNotice lists.fixed.settings place c new (Showing (between now kept from)) kept → HasMoved lists (place + 1) new now kept
    moved_on now kept from inserted rows shown =
        let f = from.0 in
        let same : f.rows ≡ rows = same_showing f.rows rows (sym f.shown ∙ shown) in
        subst (λ (own : TableRows). Within new (Showing (with_notices lists (place + 1) own)) kept) same
        (subst (λ (own : TableRows). Within new (Showing own) kept) (put_twice Notices (rows_of_first lists place) (rows_of_first lists (place + 1)) f.rows)
        (inserted (stands_fit f.contest c f.sound (all_pass f.contest f.held)) (between now kept from) (rows_of_first lists (place + 1)) refl next_is_with))

    pub next_notice : Step r old new b a (ShowsNoticeless lists) (HasMoved lists (place + 1)) (MakesNone old (ShowsNoticeless lists))
    next_notice =
        in_turn tt r old mid new b m a (ShowsNoticeless lists) (HasMoved lists place) Full (HasNotice lists.fixed.settings place c) (HasMoved lists (place + 1)) (MakesNone old (ShowsNoticeless lists)) (MakesNone mid Full) one two
        (λ now kept from h. (Showing (between now kept from), (h from.0.rows from.0.shown, (between now kept from, refl)), λ to. moved_on now kept from to))
        (λ db on none now kept from. none (Showing (between now kept from)) kept (on now kept from from.0.rows from.0.shown, (between now kept from, refl)))
        (λ db none. none)

-- the rows that the table of the notices has, put into it
pub notices_same : (rows : List Row) (all : TableRows) → all Notices ≡ rows → with_rows Notices rows all ≡ all
notices_same rows all is = same_tables (with_rows Notices rows all) all refl refl refl refl refl refl refl refl refl refl refl (sym is)

-- no clarification stands there at first
pub none_moved : (lists : ContestState) (s : State) (b : Counts) → Step {T = Unit {0}} (Ok tt) s s b b (ShowsNoticeless lists) (HasMoved lists 0) (MakesNone s (ShowsNoticeless lists))
none_moved lists s b =
    no_step tt s b (ShowsNoticeless lists) (HasMoved lists 0) (MakesNone s (ShowsNoticeless lists)) (λ now kept h rows shown.
    (let same : h.0.rows ≡ rows = same_showing h.0.rows rows (sym h.0.shown ∙ shown) in
    let none : rows Notices ≡ [] = ap (λ (all : TableRows). all Notices) (sym same) ∙ h.0.none in
    subst (λ (x : Content). Within s x kept) (shown ∙ ap (λ (all : TableRows). Showing all) (sym (notices_same [] rows none))) h.1))

-- in the end all do
pub all_moved : {T : Type 0} (r : Result T StoreError) (old new : State) (b a : Counts) (lists : ContestState) (i : ℕ) → length lists.clarifications ≤ i
    → Step r old new b a (ShowsNoticeless lists) (HasMoved lists i) (MakesNone old (ShowsNoticeless lists))
    → Step r old new b a (ShowsNoticeless lists) (HasMoved lists (length lists.clarifications)) (MakesNone old (ShowsNoticeless lists))
all_moved r old new b a lists i past =
    leaves r old new b a (ShowsNoticeless lists) (HasMoved lists i) (HasMoved lists (length lists.clarifications)) (MakesNone old (ShowsNoticeless lists))
    (λ now kept h rows shown. subst (λ (cs : List Clarification). Within new (Showing (with_rows Notices (numbered (clarification_row lists.fixed.settings) cs) rows)) kept)
    (take_all i lists.clarifications past ∙ sym (take_all (length lists.clarifications) lists.clarifications (omega arith))) (h rows shown))

-- the rows of the first schema, with the clarifications in the table of today
abbrev moved_rows : (cells : List Row) → ContestState → TableRows
moved_rows cells x = with_rows Notices (notices_rows Second x.fixed.settings x.clarifications) (first_rows_with cells x)

abbrev pub HasMovedFirst : (lists : ContestState) → Holding
HasMovedFirst lists s now kept = (f : FirstRows lists now) × Within s (Showing (moved_rows f.cells f.contest)) kept

pub moved_first : {T : Type 0} (r : Result T StoreError) (old new : State) (b a : Counts) (lists : ContestState)
    → Step r old new b a (ShowsNoticeless lists) (HasMoved lists (length lists.clarifications)) (MakesNone old (ShowsNoticeless lists))
    → Step r old new b a (ShowsFirst lists) (HasMovedFirst lists) (MakesNone old (ShowsFirst lists))
moved_first r old new b a lists =
    narrowed r old new b a (ShowsNoticeless lists) (ShowsFirst lists) (HasMoved lists (length lists.clarifications)) (HasMovedFirst lists)
    (λ now kept h. (record { rows = first_rows_with h.0.cells h.0.contest; contest = h.0.contest; shown = h.0.shown; none = refl; sound = h.0.sound; held = h.0.held }, h.1))
    (λ now kept h done. (h.0, subst (λ (rows : List Row). Within new (Showing (with_rows Notices rows (first_rows_with h.0.cells h.0.contest))) kept) (whole h.0.contest h.0.held) (done (first_rows_with h.0.cells h.0.contest) h.0.shown)))
  where
    whole : (x : ContestState) → loaded x ≡ lists → rows_of_first lists (length lists.clarifications) ≡ notices_rows Second x.fixed.settings x.clarifications
    whole x held =
        ap (numbered (clarification_row lists.fixed.settings)) (take_all (length lists.clarifications) lists.clarifications (omega arith))
        ∙ ap (λ (y : ContestState). numbered (clarification_row y.fixed.settings) y.clarifications) (sym held)

-- the only row of the table, with another version
version_changed : desk_row Second ≡ change_row row_change.Version (desk_row Second) (desk_row First)
version_changed = ap (λ b. if b && true then changed_row row_change.Version (desk_row Second) (desk_row First) else desk_row First) (sym (same_number 1 1))

pub version_set : (r : Result (Unit {0}) StoreError) (old new : State) (b a : Counts) (given : Row) → given ≡ desk_row Second
    → Step r old new b a Full (HasChanged row_change.Version given) (MakesNone old Full) → Step r old new b a Full HasVersion (MakesNone old Full)
version_set r old new b a given is s =
    leaves r old new b a Full (HasChanged row_change.Version (desk_row Second)) HasVersion (MakesNone old Full)
    (λ now kept h rows shown first. h rows (desk_row Second ∷ []) shown (record {
      is = subst (λ (own : List Row). desk_row Second ∷ [] ≡ map (change_row row_change.Version (desk_row Second)) own) (sym first) (ap (λ row. row ∷ []) version_changed);
      held = All-cons (IsHeld (form_of Desk)) (desk_row Second) [] (held (form_of Desk) (desk_row Second) desk_fits refl) (All-nil (IsHeld (form_of Desk)));
      rises = (tt, tt);
    }))
    (subst (λ (row : Row). Step r old new b a Full (HasChanged row_change.Version row) (MakesNone old Full)) is s)

-- rows are taken out, and then the version is set
pub left_first : (x : Unit {0}) (r : Result (Unit {0}) StoreError) (old mid new : State) (b m a : Counts) → Step (Ok x) old mid b m Full (HasCleared Clarifications) (MakesNone old Full)
    → Step r mid new m a Full HasVersion (MakesNone mid Full) → Step r old new b a Full HasLeft (MakesNone old Full)
left_first x r old mid new b m a one two =
    in_turn x r old mid new b m a Full (HasCleared Clarifications) Full HasVersion HasLeft (MakesNone old Full) (MakesNone mid Full) one two
    (λ now kept full done.
    (let rows = full.1.0 in
    let after = with_rows Clarifications [] rows in (
      Showing after,
      (done rows full.1.1, (after, refl)),
      λ to more shown first.
          (let same : rows ≡ more = same_showing rows more (sym full.1.1 ∙ shown) in
          let was : rows Desk ≡ desk_row First ∷ [] = ap (λ (all : TableRows). all Desk) same ∙ first in
          subst (λ (own : TableRows). Within new (Showing (with_rows Desk (desk_row Second ∷ []) (with_rows Clarifications [] own))) kept) same (to after refl was)),
    )))
    (λ db on none now kept full. none (Showing (with_rows Clarifications [] full.1.0)) kept (on now kept full full.1.0 full.1.1, (with_rows Clarifications [] full.1.0, refl)))
    (λ db none. none)

-- all is moved, and then the first schema is left
pub upgraded : (x : Unit {0}) (r : Result (Unit {0}) StoreError) (old mid new : State) (b m a : Counts) (lists : ContestState)
    → Step (Ok x) old mid b m (ShowsNoticeless lists) (HasMoved lists (length lists.clarifications)) (MakesNone old (ShowsNoticeless lists)) → Step r mid new m a Full HasLeft (MakesNone mid Full)
    → Step r old new b a (ShowsFirst lists) (HasUpgraded lists) (MakesNone old (ShowsFirst lists))
upgraded x r old mid new b m a lists one two =
    in_turn x r old mid new b m a (ShowsFirst lists) (HasMovedFirst lists) Full HasLeft (HasUpgraded lists) (MakesNone old (ShowsFirst lists)) (MakesNone mid Full) (moved_first (Ok x) old mid b m lists one) two
    (λ now kept from h.
    (let rows = moved_rows h.0.cells h.0.contest in
    (Showing rows, (h.1, (rows, refl)), λ to. (h.0, subst (λ (own : TableRows). Within new (Showing own) kept) (first_rows_upgraded h.0.cells h.0.contest) (to rows refl refl)))))
    (λ db on none now kept from.
    (let h = on now kept from in
    let rows = moved_rows h.0.cells h.0.contest in
    none (Showing rows) kept (h.1, (rows, refl))))
    (λ db none. none)
