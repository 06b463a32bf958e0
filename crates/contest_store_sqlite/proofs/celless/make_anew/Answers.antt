use Rattle.contest_store_tables.specs.Celless.{FullCelless, HasDropped}
use Rattle.contest_store_tables.specs.Connected.{shown_by}
use Rattle.contest_store_tables.specs.Steps.{MakesNone}
use Rattle.contest_store_tables.proofs.StepLemmas.{refuses}
use Rattle.contest_store_sqlite.specs.Celless.{HasEmptied}
use Rattle.contest_store_sqlite.proofs.CellessContests.{made_anew}
use Rattle.contest_store_sqlite.proofs.celless.make_anew.Goals as goal

pub returns-in-Ok : goal.returns-in-Ok
returns-in-Ok g c =
    made_anew _ c.make_both.result (shown_by g.S.Store c.args.tables.now) (shown_by g.S.Store c.drop_moved_notices.new.self) (shown_by g.S.Store c.make_both.new.tables) _ _ _ c.in-Ok.ensures c.make_both.ensures

pub returns-in-Err : goal.returns-in-Err
returns-in-Err g c =
    let old = shown_by g.S.Store c.args.tables.now in
    refuses _ old (shown_by g.S.Store c.drop_moved_notices.new.self) _ _ FullCelless HasDropped HasEmptied (MakesNone old FullCelless) c.in-Err.ensures
