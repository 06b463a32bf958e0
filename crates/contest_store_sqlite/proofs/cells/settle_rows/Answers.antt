use Rattle.contest_store_tables.specs.Connected.{shown_by}
use Rattle.contest_store_sqlite.proofs.SettledCells.{filled_right, none_there, not_filled}
use Rattle.contest_store_sqlite.proofs.cells.settle_rows.Goals as goal

pub returns-in-Ok : goal.returns-in-Ok
returns-in-Ok g c =
    filled_right _ (shown_by g.S.Store c.args.tables.now) (shown_by g.S.Store c.fill_cells.new.tables) _ _ c.args.lists.now c.args.rows.now (none_there c.args.rows.now c.if-not-is_empty.ensures) c.in-Ok.ensures

pub returns-in-Err : goal.returns-in-Err
returns-in-Err g c =
    not_filled _ (shown_by g.S.Store c.args.tables.now) (shown_by g.S.Store c.fill_cells.new.tables) _ _ c.args.lists.now c.args.rows.now (none_there c.args.rows.now c.if-not-is_empty.ensures) c.in-Err.ensures
