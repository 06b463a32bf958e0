use Rattle.std.proofs.Common.{◌∙◌, refl, sym}
use Rattle.std.specs.Prelude.{is_some}
use Rattle.contest_store_tables.specs.Connected.{shown_by}
use Rattle.contest_store_sqlite.proofs.KeeperLemmas.{add_ok, add_err}
use Rattle.contest_store_sqlite.proofs.keeper.Keeper.append.Goals as goal

pub returns-in-Ok : goal.returns-in-Ok
returns-in-Ok g c =
    let was = c.args.self.now in
    let had = rw (sym c.take.ensures.value ∙ c.in-Some.is) at c.requires.whole.1 in
    let left = add_ok (shown_by g.S.Store was.tables) (shown_by g.S.Store c.add_everywhere.new.tables) _ _ was.commits (is_some was.held) c.requires.whole.0 c.in-Some.lists c.args.entry.now had c.requires.addable
    _ c.in-Ok.changed c.in-Ok.ensures.call c.in-Ok.ensures.lists in
    record { whole = left.0; leaves = left.1; changed = refl }

pub returns-in-Err : goal.returns-in-Err
returns-in-Err g c =
    let was = c.args.self.now in
    let had = rw (sym c.take.ensures.value ∙ c.in-Some.is) at c.requires.whole.1 in
    let left = add_err (shown_by g.S.Store was.tables) (shown_by g.S.Store c.add_everywhere.new.tables) _ _ was.commits (is_some was.held) c.requires.whole.0 c.in-Some.lists c.args.entry.now had c.requires.addable
    c.in-Err.error c.in-Err.ensures.call in
    rw (c.fail.ensures.dropped, c.fail.ensures.error) record { whole = left.0; leaves = left.1; changed = refl }
