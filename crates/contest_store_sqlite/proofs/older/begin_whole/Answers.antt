use Rattle.contest_store_tables.specs.Connected.{counts_of, shown_by}
use Rattle.contest_store_tables.specs.Steps.{FullLacking}
use Rattle.contest_store_sqlite.specs.Steps.{HasAll, HoldsLacking}
use Rattle.contest_store_sqlite.proofs.CallLemmas.{begun_then, not_begun}
use Rattle.contest_store_sqlite.proofs.older.begin_whole.Goals as goal

pub returns-in-Ok : goal.returns-in-Ok
returns-in-Ok g c =
    let table = c.args.table in
    begun_then (shown_by g.S.Store c.args.tables.now) (shown_by g.S.Store c.begin.new.self) (shown_by g.S.Store c.make_whole.new.tables) _ _ _ (HoldsLacking table) (FullLacking table) (HasAll table) (λ now kept h. h.0) _ _
    c.in-Ok.ensures c.make_whole.ensures (λ now kept h within. (within, h.1))

pub returns-in-Err : goal.returns-in-Err
returns-in-Err g c =
    let table = c.args.table in
    let new = shown_by g.S.Store c.begin.new.self in
    let counts = counts_of c.begin.new.self in
    not_begun (shown_by g.S.Store c.args.tables.now) new new _ counts counts (HoldsLacking table) (FullLacking table) (HasAll table) (λ now kept h. h.0) _ c.in-Err.ensures
