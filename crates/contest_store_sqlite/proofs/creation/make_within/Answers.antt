use Rattle.contest_store_tables.specs.Connected.{shown_by}
use Rattle.contest_store_sqlite.proofs.MadeRows.{made_with_rows}
use Rattle.contest_store_sqlite.proofs.creation.make_within.Goals as goal

pub returns-in-Ok : goal.returns-in-Ok
returns-in-Ok g c =
    made_with_rows _ c.insert_rows.result (shown_by g.S.Store c.args.tables.now) (shown_by g.S.Store c.make.new.self) (shown_by g.S.Store c.insert_rows.new.tables) _ _ _
    c.args.fixed.now c.in-Ok.ensures c.insert_rows.ensures
