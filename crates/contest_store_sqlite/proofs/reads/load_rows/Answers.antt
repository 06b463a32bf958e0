use Rattle.contest_store_reading.specs.Spelling.{tables_of}
use Rattle.contest_store_tables.specs.Connected.{shown_by}
use Rattle.contest_store_tables.specs.Steps.{Full}
use Rattle.contest_store_tables.specs.declared.table_name.TableName.TheVariants.{Desk}
use Rattle.contest_store_tables.proofs.StepLemmas.{answers, refuses}
use Rattle.contest_store_sqlite.proofs.LaterSteps.{full_then}
use Rattle.contest_store_sqlite.proofs.RowsLoaded.{all_rows_loaded, none_loaded, one_more_loaded}
use Rattle.contest_store_sqlite.proofs.reads.load_rows.Goals as goal

pub loop-table-init : goal.loop-table-init
loop-table-init g c = none_loaded (shown_by g.S.Store c.args.tables.now) _ _ c.without_rows-rows.ensures

pub returns-in-Err-clause-step : goal.returns-in-Err-clause-step
returns-in-Err-clause-step g c =
    let old = shown_by g.S.Store c.args.tables.now in
    let mid = shown_by g.S.Store c.loop-table.tables in
    let new = shown_by g.S.Store c.load.new.self in
    refuses _ old new _ _ Full Full Full _ (full_then tt _ old mid new _ _ _ c.loop-table.invariant.step c.in-Err.ensures.step)

pub loop-table-preserved : goal.loop-table-preserved
loop-table-preserved g c =
    let old = shown_by g.S.Store c.args.tables.now in
    let mid = shown_by g.S.Store c.loop-table.tables in
    let new = shown_by g.S.Store c.load.new.self in
    one_more_loaded c.in-Ok.found old mid new _ _ _ c.loop-table.table-index Desk (tables_of c.loop-table.rows) (tables_of c.put.new.rows) c.in-Ok.found.items
    c.loop-table.invariant c.loop-table-test.true c.in-Ok.ensures.step c.in-Ok.ensures.rows c.put.ensures

pub returns-clause-rows : goal.returns-clause-rows
returns-clause-rows g c =
    all_rows_loaded (shown_by g.S.Store c.args.tables.now) (shown_by g.S.Store c.loop-table.tables) _ _ c.loop-table.table-index (tables_of c.loop-table.rows)
    c.loop-table.invariant c.loop-table-test.false

pub returns-clause-step : goal.returns-clause-step
returns-clause-step g c = answers tt _ (shown_by g.S.Store c.args.tables.now) (shown_by g.S.Store c.loop-table.tables) _ _ Full Full _ c.loop-table.invariant.step
