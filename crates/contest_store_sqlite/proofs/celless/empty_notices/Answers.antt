use Rattle.std.proofs.Common.{◌∙◌, arith}
use Rattle.sqlite.specs.State.{HasCleanDisk}
use Rattle.contest_store_tables.specs.Celless.{FullCelless}
use Rattle.contest_store_tables.specs.Connected.{shown_by}
use Rattle.contest_store_tables.specs.Steps.{MakesNone}
use Rattle.contest_store_tables.specs.declared.table_name.TableName.TheVariants.{Notices}
use Rattle.contest_store_tables.proofs.HoldLemmas.{if_ok}
use Rattle.contest_store_tables.proofs.StepLemmas.{in_turn, refuses}
use Rattle.contest_store_sqlite.specs.Celless.{HasEmptied}
use Rattle.contest_store_sqlite.proofs.celless.empty_notices.Goals as goal

pub returns-in-Ok-clause-rows : goal.returns-in-Ok-clause-rows
returns-in-Ok-clause-rows g c clean now kept within up =
    let early : HasCleanDisk (shown_by g.S.Store c.load_moved_notices.new.self) = omega (arith, clean, c.emptied_with.ensures.step.survives.clean) in
    if_ok c.emptied_with.result c.emptied_with.ensures.rows (λ own same. same ∙ c.in-Ok.ensures.rows early now kept within (up Notices))

pub returns-in-Ok-clause-step : goal.returns-in-Ok-clause-step
returns-in-Ok-clause-step g c =
    let old = shown_by g.S.Store c.args.tables.now in
    let mid = shown_by g.S.Store c.load_moved_notices.new.self in
    in_turn _ c.emptied_with.result old mid (shown_by g.S.Store c.emptied_with.new.tables) _ _ _ FullCelless FullCelless FullCelless HasEmptied HasEmptied (MakesNone old FullCelless) (MakesNone mid FullCelless)
    c.in-Ok.ensures.step c.emptied_with.ensures.step (λ now kept from full. (now, full, λ to. to)) (λ db on none now kept from. none now kept (on now kept from)) (λ db none. none)

pub returns-in-Err-clause-step : goal.returns-in-Err-clause-step
returns-in-Err-clause-step g c =
    refuses _ (shown_by g.S.Store c.args.tables.now) (shown_by g.S.Store c.load_moved_notices.new.self) _ _ FullCelless FullCelless HasEmptied _ c.in-Err.ensures.step
