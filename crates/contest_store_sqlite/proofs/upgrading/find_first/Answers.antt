use Rattle.std.proofs.Common.{arith, refl}
use Rattle.sqlite.specs.State.{HasCleanDisk}
use Rattle.contest_store_tables.specs.Connected.{counts_of, shown_by}
use Rattle.contest_store_tables.specs.Steps.{Lacking}
use Rattle.contest_store_sqlite.specs.Steps.{HasAll, HoldsLacking}
use Rattle.contest_store_sqlite.proofs.CallLemmas.{call_refuses}
use Rattle.contest_store_sqlite.proofs.WholeTables.{whole_then}
use Rattle.contest_store_sqlite.proofs.upgrading.find_first.Goals as goal

pub returns-in-Ok-clause-lists : goal.returns-in-Ok-clause-lists
returns-in-Ok-clause-lists g c clean now kept holds up =
    let early : HasCleanDisk (shown_by g.S.Store c.begin_whole.new.tables) = omega (arith, clean, c.read_valid_within.ensures.step.survives.clean) in
    c.read_valid_within.ensures.lists clean now kept (c.in-Ok.ensures.step.ok early (Lacking c.args.table now) kept (holds, (now, refl)) now refl) up

pub returns-in-Ok-clause-call : goal.returns-in-Ok-clause-call
returns-in-Ok-clause-call g c =
    whole_then _ c.read_valid_within.result (shown_by g.S.Store c.args.tables.now) (shown_by g.S.Store c.begin_whole.new.tables) (shown_by g.S.Store c.read_valid_within.new.tables) _ _ _ c.args.table c.in-Ok.ensures
    c.read_valid_within.ensures.step

pub returns-in-Err-clause-call : goal.returns-in-Err-clause-call
returns-in-Err-clause-call g c =
    let table = c.args.table in
    call_refuses _ (shown_by g.S.Store c.args.tables.now) (shown_by g.S.Store c.begin_whole.new.tables) _ (counts_of c.begin_whole.new.tables) (HoldsLacking table) (HasAll table) _ c.in-Err.ensures
