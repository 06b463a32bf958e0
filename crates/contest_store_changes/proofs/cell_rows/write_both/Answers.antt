use Rattle.std.proofs.Common.{Err}
use Rattle.sqlite.specs.Values.{bound}
use Rattle.contest_store_tables.specs.Connected.{shown_by}
use Rattle.contest_store_tables.specs.Steps.{Full}
use Rattle.contest_store_tables.proofs.StepLemmas.{refuses}
use Rattle.contest_store_changes.specs.CellSteps.{HasWritten, HasWrittenBoth, MayWrite}
use Rattle.contest_store_changes.proofs.CellWriting.{both_written, narrowed}
use Rattle.contest_store_changes.proofs.cell_rows.write_both.Goals as goal

pub returns-in-Ok : goal.returns-in-Ok
returns-in-Ok g c =
    both_written c.write_row-in-Ok.result (shown_by g.S.Store c.args.tables.now) (shown_by g.S.Store c.write_row.new.tables) (shown_by g.S.Store c.write_row-in-Ok.new.tables) _ _ _ c.args.is_new (bound c.args.held.now) (bound c.args.full.now)
    c.in-Ok.ensures c.write_row-in-Ok.ensures

pub returns-in-Err : goal.returns-in-Err
returns-in-Err g c =
    let held = bound c.args.held.now in
    let full = bound c.args.full.now in
    let old = shown_by g.S.Store c.args.tables.now in
    let new = shown_by g.S.Store c.write_row.new.tables in
    refuses c.in-Err.error old new _ _ (MayWrite c.args.is_new held full) (HasWritten c.args.is_new held) (HasWrittenBoth c.args.is_new held full) _
    (narrowed (Err c.in-Err.error) old new _ _ Full (MayWrite c.args.is_new held full) (HasWritten c.args.is_new held) (HasWritten c.args.is_new held) (λ now kept h. (h.within, (h.rows, h.shown))) (λ now kept h done. done) c.in-Err.ensures)
