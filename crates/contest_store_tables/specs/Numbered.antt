-- What a connection keeps true of a desk's tables from the start.
use Rattle.std.specs.Prelude.{IsTrue}
use Rattle.sqlite.specs.State.{HasCleanDisk, State}
use Rattle.contest_store_tables.specs.Connected.{IsCelless, IsOfDesk, IsLacking}
use Rattle.contest_store_tables.specs.Steps.{AreNumbered}
use Rattle.contest_store_tables.specs.Tables.{lacking, with_cells_back}
use Rattle.contest_store_tables.specs.declared.later_table.LaterTable.{LaterTable}

-- the rows of a desk's tables rise by their numbers, also if it lacks some, as they do in each database that was made or
-- found in files: the connection keeps it true, though no clause of its own says so
pub record IsNumbered (s : State) : Type 0 where
  pub desk : HasCleanDisk s → IsTrue s.is_open → IsOfDesk s → AreNumbered s.now.trees
  pub lacking : (table : LaterTable) → HasCleanDisk s → IsTrue s.is_open → IsLacking table s → AreNumbered (lacking table s.now.trees)
  pub celless : (place : LaterTable) → HasCleanDisk s → IsTrue s.is_open → IsCelless place s → AreNumbered (with_cells_back place s.now.trees)
