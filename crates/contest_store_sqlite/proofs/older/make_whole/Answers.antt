use Rattle.std.proofs.Common.{subst, sym}
use Rattle.contest_store_tables.specs.Connected.{counts_of, shown_by}
use Rattle.contest_store_tables.specs.Steps.{FullLacking, MakesNone, Step}
use Rattle.contest_store_tables.specs.declared.later_table.LaterTable.{LaterTable}
use Rattle.contest_store_sqlite.specs.Steps.{HasAll}
use Rattle.contest_store_sqlite.proofs.older.make_whole.Goals as goal

pub returns-in-Cells : goal.returns-in-Cells
returns-in-Cells g c =
    let old = shown_by g.S.Store c.args.tables.now in
    let new = shown_by g.S.Store c.make_both.new.tables in
    subst (λ (t : LaterTable). Step c.make_both.result old new (counts_of c.args.tables.now) (counts_of c.make_both.new.tables) (FullLacking t) (HasAll t) (MakesNone old (FullLacking t))) (sym c.in-Cells.is) c.make_both.ensures

pub returns-in-Notices : goal.returns-in-Notices
returns-in-Notices g c =
    let old = shown_by g.S.Store c.args.tables.now in
    let new = shown_by g.S.Store c.make_later.new.self in
    subst (λ (t : LaterTable). Step c.make_later.result old new (counts_of c.args.tables.now) (counts_of c.make_later.new.self) (FullLacking t) (HasAll t) (MakesNone old (FullLacking t))) (sym c.in-Notices.is) c.make_later.ensures
