-- The cells of a contest that is opened, compared or filled.
use Rattle.std.proofs.Common.{◌≡◌, ◌∙◌, ◌<◌, ◌≤◌, ◌+◌, inl, inr, ℕ, zero, suc, Bool, true, List, [], ◌∷◌, ◌++◌, length, map, take, get_or, Result, Ok, Err, refl, rules, sym, ap, subst, arith, IsPermutation}
use Rattle.std.specs.Prelude.{◌↔◌, ◌==◌, IsTrue}
use Rattle.std.specs.List.{AllByRecursion}
use Rattle.std.proofs.lemmas.Bool.{eqb-true}
use Rattle.std.proofs.lemmas.List.{get_or-map, map-id, take_all, take_more, length-map}
use Rattle.sqlite.specs.State.{HasCleanDisk, State, Survives}
use Rattle.sqlite.proofs.StateLemmas.{survives_then, survives_weaker}
use Rattle.sqlite_trees.specs.Tree.{IsAscending}
use Rattle.sqlite_value.specs.Order.{Row}
use Rattle.contest_lists.specs.Lists.{loaded}
use Rattle.contest_types.specs.Setup.{Setup}
use Rattle.contest_types.specs.State.{ContestState}
use Rattle.contest_types.specs.Valid.{is_valid}
use Rattle.contest_store.specs.declared.store_error.StoreError.{StoreError}
use Rattle.contest_store_cells.specs.CellRows.{cell_rows}
use Rattle.contest_store_cells.specs.PlacedCells.{placed_row}
use Rattle.contest_store_cells.specs.declared.placed.PlacedCell.{PlacedCell}
use Rattle.contest_store_cells.proofs.CellChanges.{at_end}
use Rattle.contest_store_cells.proofs.CellOrder.{is_placed}
use Rattle.contest_store_tables.specs.Schema.{form_of}
use Rattle.contest_store_tables.specs.Connected.{IsUndone}
use Rattle.contest_store_tables.specs.Counts.{CountsCall, counted}
use Rattle.contest_store_tables.proofs.HoldLemmas.{on_err, on_ok}
use Rattle.contest_store_tables.specs.Statements.{loaded_row}
use Rattle.contest_store_tables.specs.Steps.{Call, Content, Ended, Full, HasInserted, Holds, IsHeldAsGiven, IsWith, MakesNone, MakesNow, Rises, Showing, Step, Undoes, Within, with_rows}
use Rattle.contest_store_tables.specs.Tables.{TableRows}
use Rattle.contest_store_tables.specs.declared.counts.Counts.{Counts}
use Rattle.contest_store_tables.specs.declared.table_name.TableName.TheVariants.{Cells}
use Rattle.contest_store_tables.proofs.StepLemmas.{answers, in_turn, leaves, no_step, ran, refuses}
use Rattle.contest_store_changes.proofs.CellRowsKept.{cell_given, cells_rise}
use Rattle.contest_store_changes.proofs.CellWriting.{narrowed, same_showing}
use Rattle.contest_store_changes.proofs.CellsPassed.{put_same, put_twice}
use Rattle.contest_store_sqlite.specs.Settling.{AreCellsOrNone, Fillable, HasFilled, HasSettled, Keeps, MakesRight, Rising, Settleable, Settles, SettlesAny}

front_rises : {X : Type 0} (R : X → X → Type 0) (n : ℕ) (xs : List X) → IsAscending R xs → IsAscending R (take n xs)
front_rises R zero xs up = tt
front_rises R (suc n) [] up = tt
front_rises {X} R (suc n) (x ∷ xs) up = (front n xs up.0, front_rises R n xs up.1)
  where
    front : (n : ℕ) (ys : List X) → AllByRecursion (R x) ys → AllByRecursion (R x) (take n ys)
    front zero ys all = tt
    front (suc n) [] all = tt
    front (suc n) (y ∷ ys) all = (all.0, front n ys all.1)

-- a row more of those that a table takes
module _ (r : Result (Unit {0}) StoreError) (old mid new : State) (b m a : Counts) (i : ℕ) (cells : List Row) (row : Row) (more : i < length cells) (is : row ≡ get_or cells i row) (as_given : IsHeldAsGiven (form_of Cells) row)
    (one : Step {T = Unit {0}} (Ok tt) old mid b m (Fillable cells) (HasFilled (take i cells)) (MakesNone old (Fillable cells))) (two : Step r mid new m a Full (HasInserted Cells row) (MakesNone mid Full)) where
  abbrev between : TableRows → TableRows
  between rows = with_rows Cells (take i cells) rows

  halfway : (now kept : Content) → (h : Fillable cells old now kept) → HasFilled (take i cells) mid now kept → Within mid (Showing (between h.rows)) kept
  halfway now kept h done = done h.rows h.shown

  next : take (i + 1) cells ≡ take i cells ++ row ∷ []
  next = take_more cells i row more ∙ ap (λ (r : Row). take i cells ++ r ∷ []) (sym is)

  one_more : (up : Rises Cells cells) → IsWith Cells row (take i cells) (take (i + 1) cells)
  one_more up = record {
    as_given = as_given;
    among = subst (λ (rows : List Row). IsPermutation (row ∷ take i cells) rows) (sym next) (at_end (take i cells) row);
    rises = front_rises _ (i + 1) cells up;
  }

  ends : (now kept : Content) → (h : Fillable cells old now kept) → HasInserted Cells row new (Showing (between h.rows)) kept → HasFilled (take (i + 1) cells) new now kept
  ends now kept h done rows shown =
      let same : h.rows ≡ rows = same_showing h.rows rows (sym h.shown ∙ shown) in
      let both : Within new (Showing (with_rows Cells (take (i + 1) cells) (between h.rows))) kept = done (between h.rows) (take (i + 1) cells) refl (one_more h.up) in
      subst (λ (own : TableRows). Within new (Showing (with_rows Cells (take (i + 1) cells) own)) kept) same
      (subst (λ (own : TableRows). Within new (Showing own) kept) (put_twice Cells (take i cells) (take (i + 1) cells) h.rows) both)

  pub one_more_filled : Step r old new b a (Fillable cells) (HasFilled (take (i + 1) cells)) (MakesNone old (Fillable cells))
  one_more_filled =
      in_turn tt r old mid new b m a (Fillable cells) (HasFilled (take i cells)) Full (HasInserted Cells row) (HasFilled (take (i + 1) cells)) (MakesNone old (Fillable cells)) (MakesNone mid Full) one two
      (λ now kept h done. (Showing (between h.rows), (halfway now kept h done, (between h.rows, refl)), λ to. ends now kept h to))
      (λ db on none now kept h. none (Showing (between h.rows)) kept (halfway now kept h (on now kept h), (between h.rows, refl)))
      (λ db none. none)

-- the same of the row of a cell
pub one_more_placed : (r : Result (Unit {0}) StoreError) (old mid new : State) (b m a : Counts) (i : ℕ) (s : Setup) (cells : List PlacedCell) (cell d : PlacedCell) → i < length cells → cell ≡ get_or cells i d
    → Step {T = Unit {0}} (Ok tt) old mid b m (Fillable (map (placed_row s) cells)) (HasFilled (take i (map (placed_row s) cells))) (MakesNone old (Fillable (map (placed_row s) cells)))
    → Step r mid new m a Full (HasInserted Cells (placed_row s cell)) (MakesNone mid Full)
    → Step r old new b a (Fillable (map (placed_row s) cells)) (HasFilled (take (i + 1) (map (placed_row s) cells))) (MakesNone old (Fillable (map (placed_row s) cells)))
one_more_placed r old mid new b m a i s cells cell d more is one two =
    let rows = map (placed_row s) cells in
    let row = placed_row s cell in
    one_more_filled r old mid new b m a i rows row (subst (λ n. i < n) (sym (length-map cells (placed_row s))) more)
    (ap (placed_row s) is ∙ sym (get_or-map (placed_row s) cells i d row more)) (cell_given s cell.mask cell.team cell.problem cell.cell) one two

-- so many of these rows are inserted
abbrev pub AreFilled : (old cur : State) (b m : Counts) (cells : List Row) (i : ℕ) → Type 0
AreFilled old cur b m cells i = Step {T = Unit {0}} (Ok tt) old cur b m (Fillable cells) (HasFilled (take i cells)) (MakesNone old (Fillable cells))

-- none is inserted yet
pub none_filled : (s : State) (b : Counts) (cells : List Row) → Step {T = Unit {0}} (Ok tt) s s b b (Fillable cells) (HasFilled (take 0 cells)) (MakesNone s (Fillable cells))
none_filled s b cells =
    no_step tt s b (Fillable cells) (HasFilled (take 0 cells)) (MakesNone s (Fillable cells)) (λ now kept h rows shown.
    (let same : h.rows ≡ rows = same_showing h.rows rows (sym h.shown ∙ shown) in
    subst (λ (all : TableRows). Within s (Showing (with_rows Cells [] all)) kept) same
    (subst (λ (c : Content). Within s c kept) (h.shown ∙ ap (λ (all : TableRows). Showing all) (sym (put_same [] h.rows h.none))) h.within)))

-- in the end all are
pub all_filled : {T : Type 0} (r : Result T StoreError) (old new : State) (b a : Counts) (cells : List Row) (i : ℕ) → length cells ≤ i
    → Step r old new b a (Fillable cells) (HasFilled (take i cells)) (MakesNone old (Fillable cells)) → Step r old new b a (Fillable cells) (HasFilled cells) (MakesNone old (Fillable cells))
all_filled r old new b a cells i past s = subst (λ (rows : List Row). Step r old new b a (Fillable cells) (HasFilled rows) (MakesNone old (Fillable cells))) (take_all i cells past) s

-- an empty table takes the cells of a valid contest
pub filled_by : (r : Result (Unit {0}) StoreError) (old new : State) (b a : Counts) (lists : ContestState) (cells : List Row) → ((x : ContestState) → is_valid x ≡ true → loaded x ≡ lists → cells ≡ cell_rows x)
    → Step r old new b a (Fillable cells) (HasFilled cells) (MakesNone old (Fillable cells)) → Step r old new b a (Settleable lists []) (HasSettled lists) (MakesNone old (Settleable lists []))
filled_by r old new b a lists cells are =
    narrowed r old new b a (Fillable cells) (Settleable lists []) (HasFilled cells) (HasSettled lists)
    (λ now kept h. record {
      rows = h.rows;
      shown = h.shown;
      within = h.within;
      none = h.has;
      up = subst (Rises Cells) (sym (are h.contest h.valid h.held)) (cells_rise h.contest (is_placed h.contest h.valid));
    })
    (λ now kept h done rows shown x valid held. (
      inl (ap (λ (all : TableRows). all Cells) (sym (same_showing h.rows rows (sym h.shown ∙ shown))) ∙ h.has),
      subst (λ (own : List Row). Within new (Showing (with_rows Cells own rows)) kept) (are x valid held) (done rows shown),
    ))

-- what is given up before a cell is filled, where memory was refused
pub not_listed : (e given : StoreError) (old new : State) (b a : Counts) (lists : ContestState) → e ≡ given → (HasCleanDisk new → IsUndone old new) → a ≡ counted given b → Survives old new (λ _. ⊥)
    → Step {T = Unit {0}} (Err e) old new b a (Settleable lists []) (HasSettled lists) (MakesNone old (Settleable lists []))
not_listed e given old new b a lists same undone counts survives =
    ran {T = Unit {0}} (Err e) old new b a (Settleable lists []) (HasSettled lists) (λ _. ⊥) (MakesNone old (Settleable lists [])) (λ now kept h. h.within.0) undone
    (subst (λ (g : StoreError). a ≡ counted g b) (sym same) counts) survives (λ _ _ _ _. tt) (λ db none. absurd none)

-- where cells were compared nothing changed
pub compared : (right : Bool) (s : State) (b : Counts) (lists : ContestState) (found : List Row) → ((x : ContestState) → is_valid x ≡ true → loaded x ≡ lists → IsTrue right ↔ (found ≡ cell_rows x))
    → Settles (Ok right) lists found s s b b
compared right s b lists found same = (
  λ clean now kept h is rows shown x valid held.
      (let own : h.rows ≡ rows = same_showing h.rows rows (sym h.shown ∙ shown) in
      let has : rows Cells ≡ cell_rows x = ap (λ (all : TableRows). all Cells) (sym own) ∙ h.has ∙ (same x valid held).0 (subst IsTrue (sym is) (search rules)) in
      (inr has, subst (λ (c : Content). Within s c kept) (shown ∙ ap (λ (all : TableRows). Showing all) (sym (put_same (cell_rows x) rows has))) h.within)),
  no_step right s b (Settleable lists found) (λ _ _ _. Unit {0}) (MakesNone s (Settleable lists found)) (λ now kept h. tt),
)

-- rows of which there is none
pub none_there : (rows : List Row) → true ≡ (length rows == 0) → rows ≡ []
none_there [] is = refl
none_there (row ∷ rows) is = let none : length (row ∷ rows) ≡ 0 = eqb-true _ _ (sym is) in absurd (omega (arith, none))

-- what was filled is right
pub filled_right : (x : Unit {0}) (old new : State) (b a : Counts) (lists : ContestState) (found : List Row) → found ≡ []
    → Step (Ok x) old new b a (Settleable lists []) (HasSettled lists) (MakesNone old (Settleable lists [])) → Settles (Ok true) lists found old new b a
filled_right x old new b a lists found empty s = subst (λ (rows : List Row). Settles (Ok true) lists rows old new b a) (sym empty) (
  λ clean now kept h is. s.ok clean now kept h,
  answers x true old new b a (Settleable lists []) (λ _ _ _. Unit {0}) (MakesNone old (Settleable lists [])) (leaves (Ok x) old new b a (Settleable lists []) (HasSettled lists) (λ _ _ _. Unit {0}) (MakesNone old (Settleable lists [])) (λ now kept h. tt) s),
)

pub not_filled : (e : StoreError) (old new : State) (b a : Counts) (lists : ContestState) (found : List Row) → found ≡ []
    → Step {T = Unit {0}} (Err e) old new b a (Settleable lists []) (HasSettled lists) (MakesNone old (Settleable lists [])) → Settles (Err e) lists found old new b a
not_filled e old new b a lists found empty s = subst (λ (rows : List Row). Settles (Err e) lists rows old new b a) (sym empty)
    (λ clean now kept h. tt, refuses e old new b a (Settleable lists []) (HasSettled lists) (λ _ _ _. Unit {0}) (MakesNone old (Settleable lists [])) s)

-- what is given up where memory was refused
pub settles_none : (e given : StoreError) (old new : State) (b a : Counts) (lists : ContestState) (found : List Row) → e ≡ given → (HasCleanDisk new → IsUndone old new) → a ≡ counted given b → Survives old new (λ _. ⊥)
    → Settles (Err e) lists found old new b a
settles_none e given old new b a lists found same undone counts survives = (
  λ clean now kept h. tt,
  ran {T = Bool} (Err e) old new b a (Settleable lists found) (λ _ _ _. Unit {0}) (λ _. ⊥) (MakesNone old (Settleable lists found)) (λ now kept h. holds now kept h) undone
      (subst (λ (g : StoreError). a ≡ counted g b) (sym same) counts) survives (λ _ _ _ _. tt) (λ db none. absurd none),
)
  where
    holds : (now kept : Content) → Settleable lists found old now kept → Holds old now kept
    holds now kept h = h.within.0

-- the rows of the table, once they are loaded
module _ (r : Result Bool StoreError) (old mid new : State) (b m a : Counts) (lists : ContestState) (found : List Row) where
  pub settled_rows : {T : Type 0} (x : T) → Step (Ok x) old mid b m Full Full (MakesNone old Full)
      → (HasCleanDisk mid → (now : TableRows) (kept : Content) → Within old (Showing now) kept → Rises Cells (now Cells) → found ≡ map (loaded_row Cells) (now Cells))
      → Settles r lists found mid new m a → SettlesAny r lists old new b a
  settled_rows x one loads two =
      let full : (now kept : Content) → Rising lists old now kept → Full old now kept = λ now kept h. (h.within, (h.rows, h.shown)) in
      let early : HasCleanDisk new → HasCleanDisk mid = λ clean. omega (arith, clean, two.1.survives.clean) in
      let own : HasCleanDisk mid → (now kept : Content) → Rising lists old now kept → Settleable lists found mid now kept = λ clean now kept h. record {
        rows = h.rows;
        shown = h.shown;
        within = (one.ok clean now kept (full now kept h)).0;
        has = sym (loads clean h.rows kept (subst (λ (c : Content). Within old c kept) h.shown h.within) h.rises ∙ map-id (h.rows Cells));
        contest = h.contest;
        valid = h.valid;
        held = h.held;
      } in (
        λ clean now kept h. two.0 clean now kept (own (early clean) now kept h),
        record {
          ok = λ clean now kept h. two.1.ok clean now kept (own (early clean) now kept h);
          err = λ clean. on_err r (λ (u : Undoes mid new (Settleable lists found)). record { autocommit = u.autocommit; holds = λ is now kept h. u.holds is now kept (own (early clean) now kept h) }) (two.1.err clean);
          counts = subst (λ n. CountsCall r n a) one.counts two.1.counts;
          survives = survives_then old mid new (MakesNone old Full) (MakesNone mid (Settleable lists found)) (MakesNone old (Rising lists)) (λ _ db none now kept h. none now kept (full now kept h))
              (λ clean db none now kept h. none now kept (own (omega (arith, clean, two.1.survives.clean)) now kept h)) one.survives two.1.survives;
        },
      )

pub settles_unloaded : {T : Type 0} (e : StoreError) (old new : State) (b a : Counts) (lists : ContestState) → Step {T = T} (Err e) old new b a Full Full (MakesNone old Full) → SettlesAny (Err e) lists old new b a
settles_unloaded e old new b a lists s = (
  λ clean now kept h. tt,
  refuses e old new b a (Rising lists) (λ _ _ _. Unit {0}) (λ _ _ _. Unit {0}) (MakesNone old (Rising lists))
      (narrowed (Err e) old new b a Full (Rising lists) Full (λ _ _ _. Unit {0}) (λ now kept h. (h.within, (h.rows, h.shown))) (λ now kept h full. tt) s),
)

-- right cells that are committed
module _ (r : Result (Unit {0}) StoreError) (old mid new : State) (b m a : Counts) (lists : ContestState) (same : Bool) (is : same ≡ true) (one : SettlesAny (Ok same) lists old mid b m)
    (two : Call r mid new m a Holds Ended (MakesNow mid Holds)) where
  abbrev right : (now kept : Content) → Rising lists old now kept → TableRows
  right now kept h = with_rows Cells (cell_rows h.contest) h.rows

  settled : HasCleanDisk mid → (now kept : Content) → (h : Rising lists old now kept) → AreCellsOrNone (h.rows Cells) h.contest × Holds mid (Showing (right now kept h)) kept
  settled clean now kept h = (let own = one.0 clean now kept h is h.rows h.shown h.contest h.valid h.held in (own.0, own.1.0))

  before : HasCleanDisk new → HasCleanDisk mid
  before clean = omega (arith, clean, two.step.survives.clean)

  pub committed : Keeps r lists old new
  committed clean now kept h =
      let own = settled (before clean) now kept h in
      on_ok r (λ done. (own.0, done)) (two.step.ok clean (Showing (right now kept h)) kept own.1)

  pub commits_right : Survives old new (MakesRight lists old)
  commits_right =
      survives_then old mid new (MakesNone old (Rising lists)) _ (MakesRight lists old) (λ _ db none now kept h. absurd (none now kept h))
      (λ clean db made now kept h. (let own = settled (omega (arith, clean, two.step.survives.clean)) now kept h in (own.0, made.1 (Showing (right now kept h)) kept own.1))) one.1.survives two.step.survives

-- where they aren't right, or weren't compared, nothing is made
pub makes_none_right : (old new : State) (lists : ContestState) → Survives old new (MakesNone old (Rising lists)) → Survives old new (MakesRight lists old)
makes_none_right old new lists survives = survives_weaker old new _ _ (λ _ db none now kept h. absurd (none now kept h)) survives

pub makes_none_then : (old mid new : State) (lists : ContestState) → Survives old mid (MakesNone old (Rising lists)) → Survives mid new (λ _. ⊥) → Survives old new (MakesRight lists old)
makes_none_then old mid new lists one two =
    makes_none_right old new lists (survives_then old mid new (MakesNone old (Rising lists)) (λ _. ⊥) (MakesNone old (Rising lists)) (λ _ db none. none) (λ clean db none. absurd none) one two)
