use Rattle.std.proofs.Common.{◌∙◌}
use Rattle.contest_store_tables.specs.Connected.{shown_by}
use Rattle.contest_store_sqlite.proofs.SettledCells.{settled_rows, settles_unloaded}
use Rattle.contest_store_sqlite.proofs.cells.mend_cells.Goals as goal

pub returns-in-Ok : goal.returns-in-Ok
returns-in-Ok g c =
    settled_rows _ (shown_by g.S.Store c.args.tables.now) (shown_by g.S.Store c.load.new.self) (shown_by g.S.Store c.settle_rows.new.tables) _ _ _ c.args.lists.now c.deref.result.now
    c.in-Ok.rows c.in-Ok.ensures.step (λ clean now kept within up. c.deref.ensures.value ∙ c.in-Ok.ensures.rows clean now kept within up) c.settle_rows.ensures

pub returns-in-Err : goal.returns-in-Err
returns-in-Err g c = settles_unloaded c.in-Err.error (shown_by g.S.Store c.args.tables.now) (shown_by g.S.Store c.load.new.self) _ _ c.args.lists.now c.in-Err.ensures.step
