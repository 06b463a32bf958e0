use Rattle.std.proofs.Common.{map}
use Rattle.contest_store_cells.specs.PlacedCells.{placed_row}
use Rattle.contest_store_tables.specs.Connected.{counts_of, shown_by}
use Rattle.contest_store_sqlite.proofs.SettledCells.{AreFilled}
use Rattle.contest_store_sqlite.proofs.cells.insert_cells.Given as goal

abbrev pub invariant-loop-at : goal.invariant-loop-at
invariant-loop-at g l = AreFilled (shown_by g.S.Store l.fn.tables) (shown_by g.S.Store l.tables) (counts_of l.fn.tables) (counts_of l.tables) (map (placed_row l.fn.settings) l.fn.cells) l.at
