use Rattle.contest_store_tables.specs.Connected.{counts_of, shown_by}
use Rattle.contest_store_sqlite.proofs.SettledCells.{compared, settles_none}
use Rattle.contest_store_sqlite.proofs.cells.compare_cells.Goals as goal

pub returns-in-Ok : goal.returns-in-Ok
returns-in-Ok g c =
    compared c.in-Ok.same (shown_by g.S.Store c.args.tables.now) (counts_of c.args.tables.now) c.args.lists.now c.args.rows.now c.in-Ok.ensures

pub returns-in-Err : goal.returns-in-Err
returns-in-Err g c =
    let up = c.out_of_memory in
    settles_none _ _ (shown_by g.S.Store c.args.tables.now) (shown_by g.S.Store up.new.self) _ _ c.args.lists.now c.args.rows.now up.ensures.error up.ensures.undone up.ensures.counts up.ensures.survives
