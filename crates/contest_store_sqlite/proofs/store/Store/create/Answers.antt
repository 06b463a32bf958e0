use Rattle.std.proofs.Common.{IsTrue, true, ap, subst, subst₂, sym}
use Rattle.sqlite.specs.State.{HasCleanDisk}
use Rattle.sqlite.specs.Held.{state}
use Rattle.contest_types.specs.State.{ContestState}
use Rattle.contest_store_reading.specs.Spelling.{without_rows}
use Rattle.contest_store_tables.specs.Connected.{IsBare, counts_of, shown_by}
use Rattle.contest_store_sqlite.specs.Creation.{Created, KeepsLists, LeavesEither, StoodEqual, StoodOther}
use Rattle.contest_store_sqlite.specs.Keeping.{kept_of}
use Rattle.contest_store_sqlite.specs.Opening.{IsOfFirst}
use Rattle.contest_store_sqlite.proofs.CreatedStores.{created, created_whole, either_desk, either_valid, keeps_lists, not_set_up, stood_equal, stood_other, told}
use Rattle.contest_store_sqlite.proofs.store.Store.create.Goals as goal

pub invariant_of-result : goal.invariant_of-result
invariant_of-result g c =
    created_whole (without_rows c.in-Ok.fixed.value) c.in-Ok.fixed.value.settings.head (shown_by g.S.Store c.new-tables.result) (shown_by g.S.Store c.make_or_read.new.tables)
    c.in-Ok-make_or_read.lists c.in-Ok-make_or_read.ensures.outcome

pub returns-in-Ok-make_or_read-clause-created : goal.returns-in-Ok-make_or_read-clause-created
returns-in-Ok-make_or_read-clause-created g c clean bare =
    let old = shown_by g.S.Store c.new-tables.result in
    let new = shown_by g.S.Store c.make_or_read.new.tables in
    let same = c.new-tables.ensures.connection in
    let was_bare = subst (λ conn. IsBare (state g.S.Store conn)) (sym same) bare in
    subst (λ conn. Created c.args.contest (state g.S.Store conn) (kept_of new (counts_of c.make_or_read.new.tables) 0 true)) same
    (created (without_rows c.in-Ok.fixed.value) c.in-Ok.fixed.value.settings.head old new c.in-Ok-make_or_read.lists c.args.contest (counts_of c.make_or_read.new.tables) 0 true clean
    c.in-Ok.ensures.value (c.in-Ok-make_or_read.ensures.outcome clean) (c.make_or_read.ensures.bare was_bare) was_bare)

pub returns-in-Ok-make_or_read-clause-shows : goal.returns-in-Ok-make_or_read-clause-shows
returns-in-Ok-make_or_read-clause-shows g c clean =
    either_valid (without_rows c.in-Ok.fixed.value) c.in-Ok.fixed.value.settings.head (shown_by g.S.Store c.new-tables.result) (shown_by g.S.Store c.make_or_read.new.tables)
    c.in-Ok-make_or_read.lists (counts_of c.make_or_read.new.tables) 0 true (c.in-Ok-make_or_read.ensures.outcome clean)

pub returns-in-Ok-make_or_read-clause-stood : goal.returns-in-Ok-make_or_read-clause-stood
returns-in-Ok-make_or_read-clause-stood g c clean other =
    let old = shown_by g.S.Store c.new-tables.result in
    let new = shown_by g.S.Store c.make_or_read.new.tables in
    let same = c.new-tables.ensures.connection in
    subst (λ conn. StoodEqual c.args.contest (state g.S.Store conn) (kept_of new (counts_of c.make_or_read.new.tables) 0 true)) same
    (stood_equal (without_rows c.in-Ok.fixed.value) c.in-Ok.fixed.value.settings.head old new c.in-Ok-make_or_read.lists c.args.contest (counts_of c.make_or_read.new.tables) 0 true clean
    (ap (λ (x : ContestState). x.fixed.settings.head) c.in-Ok.ensures.value) (c.in-Ok-make_or_read.ensures.outcome clean)
    (λ bare. other (subst (λ conn. IsBare (state g.S.Store conn)) same bare)))

pub returns-in-Ok-make_or_read-clause-survives : goal.returns-in-Ok-make_or_read-clause-survives
returns-in-Ok-make_or_read-clause-survives g c =
    let new = shown_by g.S.Store c.make_or_read.new.tables in
    subst₂ (λ conn x. LeavesEither x (state g.S.Store conn) new) c.new-tables.ensures.connection c.in-Ok.ensures.value c.make_or_read.ensures.survives

pub returns-in-Err-make_or_read-clause-differs : goal.returns-in-Err-make_or_read-clause-differs
returns-in-Err-make_or_read-clause-differs g c clean is =
    let old = shown_by g.S.Store c.new-tables.result in
    let new = shown_by g.S.Store c.make_or_read.new.tables in
    let later = c.into_connection.ensures in
    subst₂ (λ before after. StoodOther c.args.contest.head (state g.S.Store before) (state g.S.Store after)) c.new-tables.ensures.connection (sym later)
    (stood_other c.in-Ok.fixed.value.settings.head c.args.contest.head old new c.in-Err-make_or_read.refusal (ap (λ (x : ContestState). x.fixed.settings.head) c.in-Ok.ensures.value)
    (c.in-Err-make_or_read.ensures.differs (subst (λ conn. HasCleanDisk (state g.S.Store conn)) later clean)) is)

pub returns-in-Err-clause-kinds : goal.returns-in-Err-clause-kinds
returns-in-Err-clause-kinds g c = not_set_up c.in-Err.refusal _ c.in-Err.ensures.refused

pub returns-in-Err-make_or_read-clause-kinds : goal.returns-in-Err-make_or_read-clause-kinds
returns-in-Err-make_or_read-clause-kinds g c = told c.in-Err-make_or_read.refusal c.in-Err-make_or_read.ensures.kinds

pub returns-in-Err-make_or_read-clause-unchanged : goal.returns-in-Err-make_or_read-clause-unchanged
returns-in-Err-make_or_read-clause-unchanged g c is =
    subst₂ (λ before after. KeepsLists (state g.S.Store before) (state g.S.Store after)) c.new-tables.ensures.connection (sym c.into_connection.ensures)
    (keeps_lists (shown_by g.S.Store c.new-tables.result) (shown_by g.S.Store c.make_or_read.new.tables) c.in-Err-make_or_read.refusal c.in-Err-make_or_read.ensures.kinds
    c.in-Err-make_or_read.ensures.reused is)

pub returns-in-Err-make_or_read-clause-old : goal.returns-in-Err-make_or_read-clause-old
returns-in-Err-make_or_read-clause-old g c is =
    subst₂ (λ before after. KeepsLists (state g.S.Store before) (state g.S.Store after)) c.new-tables.ensures.connection (sym c.into_connection.ensures) (c.in-Err-make_or_read.ensures.old is)

pub returns-in-Err-make_or_read-clause-first : goal.returns-in-Err-make_or_read-clause-first
returns-in-Err-make_or_read-clause-first g c clean is up =
    let same = c.new-tables.ensures.connection in
    subst (λ conn. IsOfFirst (state g.S.Store conn)) same
    (c.in-Err-make_or_read.ensures.first (subst (λ conn. HasCleanDisk (state g.S.Store conn)) c.into_connection.ensures clean) is
    (subst (λ conn. IsTrue (state g.S.Store conn).is_open) (sym same) up))

pub returns-in-Ok-make_or_read-clause-desk : goal.returns-in-Ok-make_or_read-clause-desk
returns-in-Ok-make_or_read-clause-desk g c clean =
    either_desk (without_rows c.in-Ok.fixed.value) c.in-Ok.fixed.value.settings.head (shown_by g.S.Store c.new-tables.result) (shown_by g.S.Store c.make_or_read.new.tables)
    c.in-Ok-make_or_read.lists (c.in-Ok-make_or_read.ensures.outcome clean)
