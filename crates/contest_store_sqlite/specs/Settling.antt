-- What is done to the cells of a contest that is opened.
use Rattle.std.specs.Prelude.{◌≡◌, ◌⊎◌, Bool, true, List, [], Result, IfOk, IsTrue, OnOk, Some}
use Rattle.sqlite.specs.State.{HasCleanDisk, State}
use Rattle.sqlite.specs.Tree.{Trees}
use Rattle.sqlite_value.specs.Order.{Row}
use Rattle.contest_lists.specs.Lists.{loaded}
use Rattle.contest_types.specs.State.{ContestState}
use Rattle.contest_types.specs.Valid.{is_valid}
use Rattle.contest_store.specs.declared.store_error.StoreError.{StoreError}
use Rattle.contest_store_cells.specs.CellRows.{cell_rows}
use Rattle.contest_store_tables.specs.Steps.{Content, Holding, Holds, IsLive, MakesNone, Rises, Showing, Step, Within, with_rows}
use Rattle.contest_store_tables.specs.Tables.{TableRows, rows_in}
use Rattle.contest_store_tables.specs.declared.counts.Counts.{Counts}
use Rattle.contest_store_tables.specs.declared.table_name.TableName.TheVariants.{Cells}
use Rattle.contest_store_changes.specs.ContestTables.{valid_listed_in}
use Rattle.contest_store_changes.specs.Kinds.{AreOfKinds}
use Rattle.contest_store_sqlite.specs.Loading.{AllRise}

-- there was no cell, or they are those of a contest: others are never mended
abbrev pub AreCellsOrNone : List Row → ContestState → Type 0
AreCellsOrNone found x = (found ≡ []) ⊎ (found ≡ cell_rows x)

-- within a transaction the table of the cells has no row, and takes these
pub record Fillable (cells : List Row) (s : State) (now kept : Content) : Type 0 where
  pub rows : TableRows
  pub shown : now ≡ Showing rows
  pub within : Within s now kept
  pub none : rows Cells ≡ []
  pub up : Rises Cells cells

-- it has them, and nothing else changed
abbrev pub HasFilled : List Row → Holding
HasFilled cells s now kept = (rows : TableRows) → now ≡ Showing rows → Within s (Showing (with_rows Cells cells rows)) kept

-- within a transaction the table of the cells has these rows, and a valid contest has these lists
pub record Settleable (lists : ContestState) (found : List Row) (s : State) (now kept : Content) : Type 0 where
  pub rows : TableRows
  pub shown : now ≡ Showing rows
  pub within : Within s now kept
  pub has : rows Cells ≡ found
  pub contest : ContestState
  pub valid : is_valid contest ≡ true
  pub held : loaded contest ≡ lists

-- the cells are those of each valid contest with these lists, where they were that or there was none, and nothing else changed
abbrev pub HasSettled : (lists : ContestState) → Holding
HasSettled lists s now kept =
    (rows : TableRows) → now ≡ Showing rows → (x : ContestState) → is_valid x ≡ true → loaded x ≡ lists
    → AreCellsOrNone (rows Cells) x × Within s (Showing (with_rows Cells (cell_rows x) rows)) kept

-- a table with these rows has the right cells afterwards, if it is answered that it has
abbrev pub Settles : Result Bool StoreError → (lists : ContestState) → (found : List Row) → (old new : State) → (before after : Counts) → Type 0
Settles result lists found old new before after =
    (HasCleanDisk new → (now kept : Content) → Settleable lists found old now kept → IfOk result (λ right. right ≡ true → HasSettled lists new now kept))
    × Step result old new before after (Settleable lists found) (λ _ _ _. Unit {0}) (MakesNone old (Settleable lists found))

-- the same of whatever rows it has, if they rise by its key
pub record Rising (lists : ContestState) (s : State) (now kept : Content) : Type 0 where
  pub rows : TableRows
  pub shown : now ≡ Showing rows
  pub within : Within s now kept
  pub rises : Rises Cells (rows Cells)
  pub contest : ContestState
  pub valid : is_valid contest ≡ true
  pub held : loaded contest ≡ lists

abbrev pub SettlesAny : Result Bool StoreError → (lists : ContestState) → (old new : State) → (before after : Counts) → Type 0
SettlesAny result lists old new before after =
    (HasCleanDisk new → (now kept : Content) → Rising lists old now kept → IfOk result (λ right. right ≡ true → HasSettled lists new now kept))
    × Step result old new before after (Rising lists) (λ _ _ _. Unit {0}) (MakesNone old (Rising lists))

-- the cells are right and committed, and nothing else changed
abbrev pub Keeps : {T : Type 0} → Result T StoreError → (lists : ContestState) → (old new : State) → Type 0
Keeps result lists old new =
    HasCleanDisk new → (now kept : Content) → (h : Rising lists old now kept)
    → OnOk result (AreCellsOrNone (h.rows Cells) h.contest × Holds new (Showing (with_rows Cells (cell_rows h.contest) h.rows)) (Showing (with_rows Cells (cell_rows h.contest) h.rows)))

-- trees have the rows that stood, and the cells of the valid contest with these lists
abbrev pub MakesRight : (lists : ContestState) → State → Trees → Type 0
MakesRight lists old db = (now kept : Content) → (h : Rising lists old now kept) → AreCellsOrNone (h.rows Cells) h.contest × (rows_in db ≡ with_rows Cells (cell_rows h.contest) h.rows)

-- of tables of a desk, which stand as is said
module _ (Stands : TableRows → Content) where
  -- the lists are those that their rows are, and the cells are right and committed
  abbrev pub ReadsTables : Result ContestState StoreError → (old new : State) → Type 0
  ReadsTables result old new =
      HasCleanDisk new → (rows : TableRows) (kept : Content) → Holds old (Stands rows) kept → AllRise rows
      → IfOk result (λ lists. (x : ContestState) × (valid_listed_in rows ≡ Some x) × AreOfKinds x × AreCellsOrNone (rows Cells) x × (lists ≡ loaded x)
      × Holds new (Showing (with_rows Cells (cell_rows x) rows)) (Showing (with_rows Cells (cell_rows x) rows)))

  -- trees have the rows that stood, and the cells of the valid contest whose lists they are
  abbrev pub MakesRightOfTables : State → Trees → Type 0
  MakesRightOfTables old db =
      (IsLive old → IsTrue old.is_open)
      × ((rows : TableRows) (kept : Content) → Holds old (Stands rows) kept → AllRise rows
      → (x : ContestState) × (valid_listed_in rows ≡ Some x) × AreOfKinds x × AreCellsOrNone (rows Cells) x × (rows_in db ≡ with_rows Cells (cell_rows x) rows))
