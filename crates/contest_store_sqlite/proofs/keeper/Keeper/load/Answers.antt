use Rattle.std.proofs.Common.{is_some}
use Rattle.contest_store_tables.specs.Connected.{shown_by}
use Rattle.contest_store_sqlite.proofs.KeeperLemmas.{load_ok, read_err}
use Rattle.contest_store_sqlite.proofs.keeper.Keeper.load.Goals as goal

pub returns-in-Ok-clause-whole : goal.returns-in-Ok-clause-whole
returns-in-Ok-clause-whole g c =
    (load_ok (shown_by g.S.Store c.args.self.now.tables) (shown_by g.S.Store c.load_lists.new.tables) _ _ c.args.self.now.commits (is_some c.args.self.now.held) c.requires.0
    _ c.in-Ok.lists c.args.self.now.is_changed c.in-Ok.ensures.call c.in-Ok.ensures.lists c.requires.2).0

pub returns-in-Ok-clause-leaves : goal.returns-in-Ok-clause-leaves
returns-in-Ok-clause-leaves g c =
    (load_ok (shown_by g.S.Store c.args.self.now.tables) (shown_by g.S.Store c.load_lists.new.tables) _ _ c.args.self.now.commits (is_some c.args.self.now.held) c.requires.0
    _ c.in-Ok.lists c.args.self.now.is_changed c.in-Ok.ensures.call c.in-Ok.ensures.lists c.requires.2).1

pub returns-in-Err-clause-whole : goal.returns-in-Err-clause-whole
returns-in-Err-clause-whole g c =
    rw c.fail.ensures.dropped
    (read_err (shown_by g.S.Store c.args.self.now.tables) (shown_by g.S.Store c.load_lists.new.tables) _ _ c.args.self.now.commits (is_some c.args.self.now.held) c.requires.0
    (Unit {0}) c.in-Err.error c.in-Err.ensures.call).0

pub returns-in-Err-clause-leaves : goal.returns-in-Err-clause-leaves
returns-in-Err-clause-leaves g c =
    rw (c.fail.ensures.dropped, c.fail.ensures.error)
    (read_err (shown_by g.S.Store c.args.self.now.tables) (shown_by g.S.Store c.load_lists.new.tables) _ _ c.args.self.now.commits (is_some c.args.self.now.held) c.requires.0
    (Unit {0}) c.in-Err.error c.in-Err.ensures.call).1
