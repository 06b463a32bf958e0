use Rattle.std.proofs.Common.{Err}
use Rattle.contest_store_tables.specs.Connected.{shown_by}
use Rattle.contest_store_tables.proofs.StepLemmas.{refuses}
use Rattle.contest_store_sqlite.specs.Creation.{HasNoRow}
use Rattle.contest_store_sqlite.proofs.MadeRows.{desk_inserted, rows_inserted}
use Rattle.contest_store_sqlite.proofs.creation.insert_rows.Goals as goal

pub returns-in-Ok : goal.returns-in-Ok
returns-in-Ok g c =
    rows_inserted (shown_by g.S.Store c.args.tables.now) (shown_by g.S.Store c.insert.new.self) _ _ c.desk_cells.result c.desk_cells.ensures
    (shown_by g.S.Store c.insert-in-Ok.new.self) _ c.args.fixed.now c.requires c.contest_cells.result c.contest_cells.ensures c.in-Ok.field-0 c.insert-in-Ok.result
    c.in-Ok.ensures c.insert-in-Ok.ensures

pub returns-in-Err : goal.returns-in-Err
returns-in-Err g c =
    refuses c.in-Err.error (shown_by g.S.Store c.args.tables.now) (shown_by g.S.Store c.insert.new.self) _ _ HasNoRow _ _ _
    (desk_inserted (shown_by g.S.Store c.args.tables.now) (shown_by g.S.Store c.insert.new.self) _ _ c.desk_cells.result c.desk_cells.ensures (Err c.in-Err.error) c.in-Err.ensures)
