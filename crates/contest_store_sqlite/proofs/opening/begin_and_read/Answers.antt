use Rattle.std.proofs.Common.{arith}
use Rattle.sqlite.specs.State.{HasCleanDisk}
use Rattle.contest_store_tables.specs.Connected.{shown_by, counts_of}
use Rattle.contest_store_tables.specs.Steps.{Full, Showing}
use Rattle.contest_store_sqlite.specs.Steps.{HoldsDesk}
use Rattle.contest_store_sqlite.proofs.CallLemmas.{begun_then, not_begun}
use Rattle.contest_store_sqlite.proofs.opening.begin_and_read.Goals as goal

pub returns-in-Ok-clause-lists : goal.returns-in-Ok-clause-lists
returns-in-Ok-clause-lists g c clean now kept holds up =
    let early : HasCleanDisk (shown_by g.S.Store c.begin.new.self) = omega (arith, clean, c.read_valid_within.ensures.step.survives.clean) in
    c.read_valid_within.ensures.lists clean now kept (c.in-Ok.ensures.step.ok early (Showing now) kept holds) up

pub returns-in-Ok-clause-call : goal.returns-in-Ok-clause-call
returns-in-Ok-clause-call g c =
    let old = shown_by g.S.Store c.args.tables.now in
    let mid = shown_by g.S.Store c.begin.new.self in
    let new = shown_by g.S.Store c.read_valid_within.new.tables in
    begun_then old mid new _ _ _ HoldsDesk Full Full (λ now kept h. h.0) _ _ c.in-Ok.ensures c.read_valid_within.ensures.step (λ now kept h within. (within, h.1))

pub returns-in-Err-clause-call : goal.returns-in-Err-clause-call
returns-in-Err-clause-call g c =
    let new = shown_by g.S.Store c.begin.new.self in
    let counts = counts_of c.begin.new.self in
    not_begun (shown_by g.S.Store c.args.tables.now) new new _ counts counts HoldsDesk Full Full (λ now kept h. h.0) _ c.in-Err.ensures
