-- What is found and left where the tables of the first schema are upgraded.
use Rattle.std.specs.Prelude.{◌≡◌, ◌⊎◌, Result, OnOk, IsTrue, Some}
use Rattle.std.specs.List.{AllByRecursion}
use Rattle.sqlite.specs.State.{HasCleanDisk, State, Survives}
use Rattle.sqlite.specs.Tree.{Trees}
use Rattle.contest_types.specs.State.{ContestState}
use Rattle.contest_store.specs.declared.store_error.StoreError.{StoreError}
use Rattle.contest_store_tables.specs.Connected.{IsLacking}
use Rattle.contest_store_tables.specs.Steps.{Content, Holds, IsLive, Lacking, Showing}
use Rattle.contest_store_tables.specs.Tables.{TableRows, lacking, rows_in}
use Rattle.contest_store_tables.specs.declared.later_table.LaterTable.{LaterTable}
use Rattle.contest_store_tables.specs.declared.table_name.TableName.TheVariants.{Cells, Submissions, Clarifications}
use Rattle.contest_store_changes.specs.ContestTables.{table_rows}
use Rattle.contest_store_changes.specs.Laws.{IsWide}
use Rattle.contest_store_changes.specs.Sound.{IsSound}
use Rattle.contest_store_changes.specs.Upgraded.{first_listed_in}
use Rattle.contest_store_changes.specs.UpgradeSteps.{FirstRows, ShowsFirst}
use Rattle.contest_store_sqlite.specs.Contests.{HoldsContests, contest_in_trees, first_listed_in_trees}
use Rattle.contest_store_sqlite.specs.Creation.{IsFilled}
use Rattle.contest_store_sqlite.specs.Loading.{AllRise}
use Rattle.contest_store_sqlite.specs.Settling.{AreCellsOrNone}

-- the tables showed the lists of this valid contest in the first schema, with its cells or none, and show it now with them in
-- that of today, as it is committed
pub record IsUpgraded (old new : State) : Type 0 where
  pub contest : ContestState
  pub table : LaterTable
  pub lacked : IsLacking table old
  pub found : first_listed_in_trees old.now.trees ≡ Some contest
  pub cells : AreCellsOrNone (rows_in (lacking table old.now.trees) Cells) contest
  pub holds : HoldsContests new contest contest

-- trees show the valid contest whose lists stood in the first schema, with its cells, where those stood or none did
abbrev pub IsMovedUp : State → Trees → Type 0
IsMovedUp s db =
    (x : ContestState) × (first_listed_in_trees s.now.trees ≡ Some x) × ((table : LaterTable) × IsLacking table s × AreCellsOrNone (rows_in (lacking table s.now.trees) Cells) x)
    × (contest_in_trees db ≡ Some x)

-- a crash leaves what it could leave before, or the contest that stood, upgraded or, where it was that already, with its
-- cells: nothing else is committed
abbrev pub KeepsUpgraded : (old new : State) → Type 0
KeepsUpgraded old new = Survives old new (λ db. IsFilled old db ⊎ IsMovedUp old db)

-- the rows that stood are those of a sound contest in the first schema; it shows in that of today now, as it is committed
abbrev pub MovesUp : Result (Unit {0}) StoreError → (lists : ContestState) → (old new : State) → Type 0
MovesUp result lists old new =
    HasCleanDisk new → (now kept : Content) → ShowsFirst lists old now kept → OnOk result ((f : FirstRows lists now) × AreCellsOrNone f.cells f.contest × Holds new (Showing (table_rows f.contest)) (Showing (table_rows f.contest)))

abbrev pub MakesMoved : (lists : ContestState) → State → Trees → Type 0
MakesMoved lists old db = (now kept : Content) → ShowsFirst lists old now kept → (f : FirstRows lists now) × AreCellsOrNone f.cells f.contest × (rows_in db ≡ table_rows f.contest)

-- rows have a cell for each column of their tables, where a load doesn't show them as they stand
pub record AreWide (rows : TableRows) : Type 0 where
  pub submissions : AllByRecursion (IsWide Submissions) (rows Submissions)
  pub clarifications : AllByRecursion (IsWide Clarifications) (rows Clarifications)

-- the same of whatever rows stood, if they rise by their keys
abbrev pub UpgradesTables : Result (Unit {0}) StoreError → LaterTable → (old new : State) → Type 0
UpgradesTables result table old new =
    HasCleanDisk new → (rows : TableRows) (kept : Content) → Holds old (Lacking table rows) kept → AllRise rows → AreWide rows
    → OnOk result ((x : ContestState) × (first_listed_in rows ≡ Some x) × IsSound x × AreCellsOrNone (rows Cells) x × Holds new (Showing (table_rows x)) (Showing (table_rows x)))

abbrev pub MakesUpgraded : LaterTable → State → Trees → Type 0
MakesUpgraded table old db =
    (IsLive old → IsTrue old.is_open)
    × ((rows : TableRows) (kept : Content) → Holds old (Lacking table rows) kept → AllRise rows → AreWide rows
    → (x : ContestState) × (first_listed_in rows ≡ Some x) × IsSound x × AreCellsOrNone (rows Cells) x × (rows_in db ≡ table_rows x))
