use Rattle.std.proofs.Common.{is_some, refl}
use Rattle.contest_store_tables.specs.Connected.{shown_by}
use Rattle.contest_store_sqlite.proofs.KeeperLemmas.{commit_ok, commit_err}
use Rattle.contest_store_sqlite.proofs.keeper.Keeper.commit_changes.Goals as goal

pub returns-in-Ok-clause-whole : goal.returns-in-Ok-clause-whole
returns-in-Ok-clause-whole g c =
    (commit_ok (shown_by g.S.Store c.args.self.now.tables) (shown_by g.S.Store c.commit.new.self) _ _ c.args.self.now.commits (is_some c.args.self.now.held) c.requires.whole.0
    _ c.args.self.now.held _ c.one_more-self.ensures refl c.in-Ok.ensures.ended c.requires.whole.1).0

pub returns-in-Ok-clause-leaves : goal.returns-in-Ok-clause-leaves
returns-in-Ok-clause-leaves g c =
    (commit_ok (shown_by g.S.Store c.args.self.now.tables) (shown_by g.S.Store c.commit.new.self) _ _ c.args.self.now.commits (is_some c.args.self.now.held) c.requires.whole.0
    _ c.args.self.now.held _ c.one_more-self.ensures refl c.in-Ok.ensures.ended c.requires.whole.1).1

pub returns-in-Err-clause-whole : goal.returns-in-Err-clause-whole
returns-in-Err-clause-whole g c =
    rw c.fail.ensures.dropped
    (commit_err (shown_by g.S.Store c.args.self.now.tables) (shown_by g.S.Store c.commit.new.self) _ _ c.args.self.now.commits (is_some c.args.self.now.held) c.requires.whole.0
    c.in-Err.error c.in-Err.ensures.ended).0

pub returns-in-Err-clause-leaves : goal.returns-in-Err-clause-leaves
returns-in-Err-clause-leaves g c =
    rw (c.fail.ensures.dropped, c.fail.ensures.error)
    (commit_err (shown_by g.S.Store c.args.self.now.tables) (shown_by g.S.Store c.commit.new.self) _ _ c.args.self.now.commits (is_some c.args.self.now.held) c.requires.whole.0
    c.in-Err.error c.in-Err.ensures.ended).1
