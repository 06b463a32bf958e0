use Rattle.std.proofs.Common.{subst, true}
use Rattle.sqlite.specs.Held.{state}
use Rattle.contest_store_tables.specs.Connected.{shown_by, counts_of}
use Rattle.contest_store_sqlite.specs.Keeping.{kept_of}
use Rattle.contest_store_sqlite.specs.Opening.{Opened}
use Rattle.contest_store_sqlite.proofs.StoresMade.{is_whole, opened, read_is_desk, read_valid}
use Rattle.contest_store_sqlite.proofs.store.Store.open.Goals as goal

pub invariant_of-result : goal.invariant_of-result
invariant_of-result g c = is_whole (shown_by g.S.Store c.new-tables.result) (shown_by g.S.Store c.read_desk.new.tables) c.in-Ok.lists c.in-Ok.ensures.read

pub returns-in-Ok-clause-shows : goal.returns-in-Ok-clause-shows
returns-in-Ok-clause-shows g c clean =
    read_valid (shown_by g.S.Store c.new-tables.result) (shown_by g.S.Store c.read_desk.new.tables) (counts_of c.read_desk.new.tables) 0 true c.in-Ok.lists (c.in-Ok.ensures.read clean)

pub returns-in-Ok-clause-opened : goal.returns-in-Ok-clause-opened
returns-in-Ok-clause-opened g c clean =
    let new = shown_by g.S.Store c.read_desk.new.tables in
    let counts = counts_of c.read_desk.new.tables in
    subst (λ conn. Opened (state g.S.Store conn) (kept_of new counts 0 true)) c.new-tables.ensures.connection
    (opened (shown_by g.S.Store c.new-tables.result) new counts 0 true c.in-Ok.lists (c.in-Ok.ensures.read clean) c.read_desk.ensures.survives clean)

pub returns-in-Ok-clause-desk : goal.returns-in-Ok-clause-desk
returns-in-Ok-clause-desk g c clean = read_is_desk (shown_by g.S.Store c.new-tables.result) (shown_by g.S.Store c.read_desk.new.tables) c.in-Ok.lists (c.in-Ok.ensures.read clean)
