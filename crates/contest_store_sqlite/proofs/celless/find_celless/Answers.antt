use Rattle.std.proofs.Common.{arith, refl}
use Rattle.sqlite.specs.State.{HasCleanDisk}
use Rattle.contest_store_tables.specs.Connected.{counts_of, shown_by}
use Rattle.contest_store_tables.specs.Steps.{Celless}
use Rattle.contest_store_sqlite.specs.Celless.{HasEmptied, HoldsCelless}
use Rattle.contest_store_sqlite.proofs.CallLemmas.{call_refuses}
use Rattle.contest_store_sqlite.proofs.CellessContests.{emptied_then}
use Rattle.contest_store_sqlite.proofs.celless.find_celless.Goals as goal

pub returns-in-Ok-clause-lists : goal.returns-in-Ok-clause-lists
returns-in-Ok-clause-lists g c clean now kept holds up =
    let early : HasCleanDisk (shown_by g.S.Store c.begin_emptied.new.tables) = omega (arith, clean, c.check_emptied.ensures.step.survives.clean) in
    c.check_emptied.ensures.lists clean now kept (c.in-Ok.ensures.call.step.ok early (Celless now) kept (holds, (now, refl)) now refl) up (c.in-Ok.ensures.rows early now kept holds up)

pub returns-in-Ok-clause-call : goal.returns-in-Ok-clause-call
returns-in-Ok-clause-call g c =
    emptied_then _ c.check_emptied.result (shown_by g.S.Store c.args.tables.now) (shown_by g.S.Store c.begin_emptied.new.tables) (shown_by g.S.Store c.check_emptied.new.tables) _ _ _ c.in-Ok.ensures.call
    c.check_emptied.ensures.step

pub returns-in-Err-clause-call : goal.returns-in-Err-clause-call
returns-in-Err-clause-call g c =
    call_refuses _ (shown_by g.S.Store c.args.tables.now) (shown_by g.S.Store c.begin_emptied.new.tables) _ (counts_of c.begin_emptied.new.tables) HoldsCelless HasEmptied _ c.in-Err.ensures.call
