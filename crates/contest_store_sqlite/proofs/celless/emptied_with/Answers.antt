use Rattle.contest_store_tables.specs.Celless.{FullCelless}
use Rattle.contest_store_tables.specs.Connected.{shown_by}
use Rattle.contest_store_tables.specs.Steps.{MakesNone}
use Rattle.contest_store_tables.proofs.StepLemmas.{answers, refuses}
use Rattle.contest_store_sqlite.specs.Celless.{HasEmptied}
use Rattle.contest_store_sqlite.proofs.celless.emptied_with.Goals as goal

pub returns-in-Ok-clause-step : goal.returns-in-Ok-clause-step
returns-in-Ok-clause-step g c =
    let old = shown_by g.S.Store c.args.tables.now in
    answers _ _ old (shown_by g.S.Store c.make_anew.new.tables) _ _ FullCelless HasEmptied (MakesNone old FullCelless) c.in-Ok.ensures

pub returns-in-Err-clause-step : goal.returns-in-Err-clause-step
returns-in-Err-clause-step g c =
    let old = shown_by g.S.Store c.args.tables.now in
    refuses _ old (shown_by g.S.Store c.make_anew.new.tables) _ _ FullCelless HasEmptied HasEmptied (MakesNone old FullCelless) c.in-Err.ensures
