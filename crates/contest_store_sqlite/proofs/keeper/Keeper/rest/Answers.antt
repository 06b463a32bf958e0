use Rattle.std.proofs.Common.{is_some, refl}
use Rattle.contest_store_tables.specs.Connected.{connection_of, shown_by}
use Rattle.contest_store_sqlite.specs.Laws.{settled_at}
use Rattle.contest_store_sqlite.proofs.KeeperLemmas.{rest_ok, rest_err}
use Rattle.contest_store_sqlite.proofs.keeper.Keeper.rest.Goals as goal

pub returns-in-Ok-clause-whole : goal.returns-in-Ok-clause-whole
returns-in-Ok-clause-whole g c =
    let conn = connection_of c.args.self.now.tables in
    (rest_ok (shown_by g.S.Store c.args.self.now.tables) (shown_by g.S.Store c.commit.new.self) _ _ c.args.self.now.commits (is_some c.args.self.now.held) c.requires.whole.0 c.requires.settled
    (settled_at (g.S.Store.recovers conn.store) (g.S.Store.view conn.store).is_open (g.S.Store.view conn.store).committed _ _ (g.met.S.Store.settled conn.store) (g.met.S.Store.stays conn.store))
    _ c.args.self.now.held refl c.in-Ok.ensures.ended c.requires.whole.1).0

pub returns-in-Ok-clause-leaves : goal.returns-in-Ok-clause-leaves
returns-in-Ok-clause-leaves g c =
    let conn = connection_of c.args.self.now.tables in
    (rest_ok (shown_by g.S.Store c.args.self.now.tables) (shown_by g.S.Store c.commit.new.self) _ _ c.args.self.now.commits (is_some c.args.self.now.held) c.requires.whole.0 c.requires.settled
    (settled_at (g.S.Store.recovers conn.store) (g.S.Store.view conn.store).is_open (g.S.Store.view conn.store).committed _ _ (g.met.S.Store.settled conn.store) (g.met.S.Store.stays conn.store))
    _ c.args.self.now.held refl c.in-Ok.ensures.ended c.requires.whole.1).1

pub returns-in-Err-clause-whole : goal.returns-in-Err-clause-whole
returns-in-Err-clause-whole g c =
    let conn = connection_of c.args.self.now.tables in
    rw c.fail.ensures.dropped
    (rest_err (shown_by g.S.Store c.args.self.now.tables) (shown_by g.S.Store c.commit.new.self) _ _ c.args.self.now.commits (is_some c.args.self.now.held) c.requires.whole.0 c.requires.settled
    (settled_at (g.S.Store.recovers conn.store) (g.S.Store.view conn.store).is_open (g.S.Store.view conn.store).committed _ _ (g.met.S.Store.settled conn.store) (g.met.S.Store.stays conn.store))
    c.in-Err.error c.in-Err.ensures.ended).0

pub returns-in-Err-clause-leaves : goal.returns-in-Err-clause-leaves
returns-in-Err-clause-leaves g c =
    let conn = connection_of c.args.self.now.tables in
    rw (c.fail.ensures.dropped, c.fail.ensures.error)
    (rest_err (shown_by g.S.Store c.args.self.now.tables) (shown_by g.S.Store c.commit.new.self) _ _ c.args.self.now.commits (is_some c.args.self.now.held) c.requires.whole.0 c.requires.settled
    (settled_at (g.S.Store.recovers conn.store) (g.S.Store.view conn.store).is_open (g.S.Store.view conn.store).committed _ _ (g.met.S.Store.settled conn.store) (g.met.S.Store.stays conn.store))
    c.in-Err.error c.in-Err.ensures.ended).1
