use Rattle.std.proofs.Common.{subst}
use Rattle.contest_store_tables.specs.Connected.{counts_of, shown_by}
use Rattle.contest_store_sqlite.specs.Keeping.{StaysCommitted}
use Rattle.contest_store_sqlite.proofs.KeeperLemmas.{commits_nothing}
use Rattle.contest_store_sqlite.proofs.keeper.Keeper.commit.Goals as goal

pub returns-clause-leaves : goal.returns-clause-leaves
returns-clause-leaves g c =
    let was = c.args.self.now in
    commits_nothing (shown_by g.S.Store was.tables) (counts_of was.tables) was.commits _ was.held c.requires.whole.1
    (subst (StaysCommitted (shown_by g.S.Store was.tables)) c.if-self.false c.requires.whole.2) c.requires.loaded c.one_more-self.ensures
