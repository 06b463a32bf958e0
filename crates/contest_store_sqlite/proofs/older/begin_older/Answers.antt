use Rattle.std.proofs.Common.{arith, refl}
use Rattle.sqlite.specs.State.{HasCleanDisk}
use Rattle.contest_store_tables.specs.Connected.{counts_of, shown_by}
use Rattle.contest_store_tables.specs.Steps.{Lacking}
use Rattle.contest_store_sqlite.proofs.CallLemmas.{call_refuses}
use Rattle.contest_store_sqlite.proofs.WholeTables.{whole_then}
use Rattle.contest_store_sqlite.specs.Steps.{HasAll, HoldsLacking}
use Rattle.contest_store_sqlite.proofs.older.begin_older.Goals as goal

pub returns-in-Ok-clause-first : goal.returns-in-Ok-clause-first
returns-in-Ok-clause-first g c clean rows kept holds up =
    let early : HasCleanDisk (shown_by g.S.Store c.begin_whole.new.tables) = omega (arith, clean, c.is_first.ensures.step.survives.clean) in
    c.is_first.ensures.first clean rows kept (c.in-Ok.ensures.step.ok early (Lacking c.args.table rows) kept (holds, (rows, refl)) rows refl) up

pub returns-in-Ok-clause-call : goal.returns-in-Ok-clause-call
returns-in-Ok-clause-call g c =
    whole_then _ c.is_first.result (shown_by g.S.Store c.args.tables.now) (shown_by g.S.Store c.begin_whole.new.tables) (shown_by g.S.Store c.is_first.new.tables) _ _ _ c.args.table c.in-Ok.ensures c.is_first.ensures.step

pub returns-in-Err-clause-call : goal.returns-in-Err-clause-call
returns-in-Err-clause-call g c =
    let table = c.args.table in
    call_refuses _ (shown_by g.S.Store c.args.tables.now) (shown_by g.S.Store c.begin_whole.new.tables) _ (counts_of c.begin_whole.new.tables) (HoldsLacking table) (HasAll table) _ c.in-Err.ensures
