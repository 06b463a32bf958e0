use Rattle.std.proofs.Common.{◌≡◌, ℕ, List, Option, is_some, refl}
use Rattle.contest_store_tables.specs.Connected.{shown_by}
use Rattle.contest_types.specs.Loads.{file_of}
use Rattle.contest_store_sqlite.proofs.KeeperLemmas.{file_ok, read_err, read_of_it}
use Rattle.contest_store_sqlite.proofs.keeper.Keeper.file.Goals as goal

pub returns-in-Ok-clause-whole : goal.returns-in-Ok-clause-whole
returns-in-Ok-clause-whole g c =
    (file_ok (shown_by g.S.Store c.args.self.now.tables) (shown_by g.S.Store c.load_file.new.tables) _ _ c.args.self.now.commits (is_some c.args.self.now.held) c.requires.0
    _ c.in-Ok.file c.args.self.now.held c.args.self.now.is_changed refl c.in-Ok.ensures.call c.requires.1 c.requires.2).0

pub returns-in-Ok-clause-value : goal.returns-in-Ok-clause-value
returns-in-Ok-clause-value g c =
    λ p. read_of_it (shown_by g.S.Store c.args.self.now.tables) (shown_by g.S.Store c.load_file.new.tables) _ _ c.args.self.now.commits (is_some c.args.self.now.held) c.requires.0
    _ (λ y. c.in-Ok.file ≡ file_of y c.args.team c.args.number) c.in-Ok.ensures.call c.in-Ok.ensures.value p.0

pub returns-in-Ok-clause-leaves : goal.returns-in-Ok-clause-leaves
returns-in-Ok-clause-leaves g c =
    (file_ok (shown_by g.S.Store c.args.self.now.tables) (shown_by g.S.Store c.load_file.new.tables) _ _ c.args.self.now.commits (is_some c.args.self.now.held) c.requires.0
    _ c.in-Ok.file c.args.self.now.held c.args.self.now.is_changed refl c.in-Ok.ensures.call c.requires.1 c.requires.2).1

pub returns-in-Err-clause-whole : goal.returns-in-Err-clause-whole
returns-in-Err-clause-whole g c =
    rw c.fail.ensures.dropped
    (read_err (shown_by g.S.Store c.args.self.now.tables) (shown_by g.S.Store c.load_file.new.tables) _ _ c.args.self.now.commits (is_some c.args.self.now.held) c.requires.0
    (Option (List ℕ)) c.in-Err.error c.in-Err.ensures.call).0

pub returns-in-Err-clause-leaves : goal.returns-in-Err-clause-leaves
returns-in-Err-clause-leaves g c =
    rw (c.fail.ensures.dropped, c.fail.ensures.error)
    (read_err (shown_by g.S.Store c.args.self.now.tables) (shown_by g.S.Store c.load_file.new.tables) _ _ c.args.self.now.commits (is_some c.args.self.now.held) c.requires.0
    (Option (List ℕ)) c.in-Err.error c.in-Err.ensures.call).1
