use Rattle.std.proofs.Common.{arith}
use Rattle.sqlite.specs.State.{HasCleanDisk}
use Rattle.contest_store_tables.specs.Celless.{FullCelless}
use Rattle.contest_store_tables.specs.Connected.{counts_of, shown_by}
use Rattle.contest_store_tables.specs.Steps.{Celless}
use Rattle.contest_store_sqlite.specs.Celless.{HasEmptied, HoldsCelless}
use Rattle.contest_store_sqlite.proofs.CallLemmas.{begun_then, not_begun}
use Rattle.contest_store_sqlite.proofs.celless.begin_emptied.Goals as goal

pub returns-in-Ok-clause-rows : goal.returns-in-Ok-clause-rows
returns-in-Ok-clause-rows g c clean now kept holds up =
    let early : HasCleanDisk (shown_by g.S.Store c.begin.new.self) = omega (arith, clean, c.empty_notices.ensures.step.survives.clean) in
    c.empty_notices.ensures.rows clean now kept (c.in-Ok.ensures.step.ok early (Celless now) kept holds) up

pub returns-in-Ok-clause-call : goal.returns-in-Ok-clause-call
returns-in-Ok-clause-call g c =
    begun_then (shown_by g.S.Store c.args.tables.now) (shown_by g.S.Store c.begin.new.self) (shown_by g.S.Store c.empty_notices.new.tables) _ _ _ HoldsCelless FullCelless HasEmptied (λ now kept h. h.0) _ _
    c.in-Ok.ensures c.empty_notices.ensures.step (λ now kept h within. (within, h.1))

pub returns-in-Err-clause-call : goal.returns-in-Err-clause-call
returns-in-Err-clause-call g c =
    let new = shown_by g.S.Store c.begin.new.self in
    let counts = counts_of c.begin.new.self in
    not_begun (shown_by g.S.Store c.args.tables.now) new new _ counts counts HoldsCelless FullCelless HasEmptied (λ now kept h. h.0) _ c.in-Err.ensures
