use Rattle.std.proofs.Common.{subst}
use Rattle.sqlite_value.specs.Order.{Row}
use Rattle.contest_store_cells.specs.PlacedCells.{placed_row}
use Rattle.contest_store_tables.specs.Connected.{counts_of, shown_by}
use Rattle.contest_store_tables.specs.Steps.{Full, HasInserted, MakesNone, Step}
use Rattle.contest_store_tables.specs.declared.table_name.TableName.TheVariants.{Cells}
use Rattle.contest_store_changes.proofs.BoundRows.{bound_as, cell_unreal}
use Rattle.contest_store_sqlite.proofs.cells.insert_cell.Goals as goal

pub returns : goal.returns
returns g c =
    let settings = c.args.settings.now in
    let cell = c.args.cell.now in
    let old = shown_by g.S.Store c.args.tables.now in
    let new = shown_by g.S.Store c.insert.new.self in
    subst (λ (row : Row). Step c.insert.result old new (counts_of c.args.tables.now) (counts_of c.insert.new.self) Full (HasInserted Cells row) (MakesNone old Full))
    (bound_as c.cell_cells.result (placed_row settings cell) (cell_unreal settings cell.mask cell.team cell.problem cell.cell) c.cell_cells.ensures) c.insert.ensures
