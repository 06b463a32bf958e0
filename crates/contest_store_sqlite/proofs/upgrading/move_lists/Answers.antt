use Rattle.std.proofs.Common.{Err, Ok}
use Rattle.contest_store_tables.specs.Connected.{counts_of, shown_by}
use Rattle.contest_store_sqlite.proofs.UpgradedContests.{makes_moved, moved_none, moves_up, same_lists}
use Rattle.contest_store_sqlite.proofs.upgrading.move_lists.Goals as goal

pub returns-in-Ok-clause-moves : goal.returns-in-Ok-clause-moves
returns-in-Ok-clause-moves g c =
    let old = shown_by g.S.Store c.args.tables.now in
    let mid = shown_by g.S.Store c.upgrade.new.tables in
    let moves = same_lists (Ok c.in-Ok.field-0) old mid _ (counts_of c.upgrade.new.tables) c.lists.result.now c.args.lists.now c.lists.ensures c.in-Ok.ensures in
    moves_up c.in-Ok.field-0 c.mend_and_commit.result old mid (shown_by g.S.Store c.mend_and_commit.new.tables) _ (counts_of c.upgrade.new.tables) c.args.lists.now moves
    c.mend_and_commit.ensures.survives c.mend_and_commit.ensures.keeps

pub returns-in-Ok-clause-survives : goal.returns-in-Ok-clause-survives
returns-in-Ok-clause-survives g c =
    let old = shown_by g.S.Store c.args.tables.now in
    let mid = shown_by g.S.Store c.upgrade.new.tables in
    let moves = same_lists (Ok c.in-Ok.field-0) old mid _ (counts_of c.upgrade.new.tables) c.lists.result.now c.args.lists.now c.lists.ensures c.in-Ok.ensures in
    makes_moved c.in-Ok.field-0 c.mend_and_commit.result old mid (shown_by g.S.Store c.mend_and_commit.new.tables) _ (counts_of c.upgrade.new.tables) c.args.lists.now moves
    c.mend_and_commit.ensures.survives

pub returns-in-Err-clause-survives : goal.returns-in-Err-clause-survives
returns-in-Err-clause-survives g c =
    let old = shown_by g.S.Store c.args.tables.now in
    let new = shown_by g.S.Store c.upgrade.new.tables in
    moved_none c.in-Err.error old new _ (counts_of c.upgrade.new.tables) c.args.lists.now
    (same_lists (Err c.in-Err.error) old new _ (counts_of c.upgrade.new.tables) c.lists.result.now c.args.lists.now c.lists.ensures c.in-Err.ensures)
