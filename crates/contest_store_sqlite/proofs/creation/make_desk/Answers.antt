use Rattle.contest_store_reading.specs.Spelling.{without_rows}
use Rattle.contest_store_tables.specs.Connected.{shown_by}
use Rattle.contest_store_sqlite.proofs.MadeContests.{not_made, then_committed}
use Rattle.contest_store_sqlite.proofs.creation.make_desk.Goals as goal

pub returns-in-Ok : goal.returns-in-Ok
returns-in-Ok g c =
    then_committed c.in-Ok.field-0 c.commit.result (shown_by g.S.Store c.args.tables.now) (shown_by g.S.Store c.make_rows.new.tables) (shown_by g.S.Store c.commit.new.self) _ _ _
    (without_rows c.args.fixed.now) c.in-Ok.ensures c.commit.ensures.ended

pub returns-in-Err : goal.returns-in-Err
returns-in-Err g c = not_made c.in-Err.error (shown_by g.S.Store c.args.tables.now) (shown_by g.S.Store c.make_rows.new.tables) _ _ (without_rows c.args.fixed.now) c.in-Err.ensures
