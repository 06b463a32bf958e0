use Rattle.contest_store_tables.specs.Connected.{shown_by}
use Rattle.contest_store_sqlite.proofs.SettledCells.{commits_right, committed, makes_none_right, makes_none_then}
use Rattle.contest_store_sqlite.proofs.opening.mend_and_commit.Goals as goal

pub returns-in-Ok-true-clause-keeps : goal.returns-in-Ok-true-clause-keeps
returns-in-Ok-true-clause-keeps g c =
    committed c.commit.result (shown_by g.S.Store c.args.tables.now) (shown_by g.S.Store c.mend_cells.new.tables) (shown_by g.S.Store c.commit.new.self) _ _ _ c.args.lists.now c.in-Ok-true.field-0
    c.in-Ok-true.field-0-test c.in-Ok-true.ensures c.commit.ensures.ended

pub returns-in-Ok-true-clause-survives : goal.returns-in-Ok-true-clause-survives
returns-in-Ok-true-clause-survives g c =
    commits_right c.commit.result (shown_by g.S.Store c.args.tables.now) (shown_by g.S.Store c.mend_cells.new.tables) (shown_by g.S.Store c.commit.new.self) _ _ _ c.args.lists.now c.in-Ok-true.field-0
    c.in-Ok-true.field-0-test c.in-Ok-true.ensures c.commit.ensures.ended

pub returns-in-Ok-false-clause-survives : goal.returns-in-Ok-false-clause-survives
returns-in-Ok-false-clause-survives g c =
    makes_none_then (shown_by g.S.Store c.args.tables.now) (shown_by g.S.Store c.mend_cells.new.tables) (shown_by g.S.Store c.roll_back.new.self) c.args.lists.now
    c.mend_cells.ensures.1.survives c.roll_back.ensures.survives

pub returns-in-Err-clause-survives : goal.returns-in-Err-clause-survives
returns-in-Err-clause-survives g c =
    makes_none_right (shown_by g.S.Store c.args.tables.now) (shown_by g.S.Store c.mend_cells.new.tables) c.args.lists.now c.mend_cells.ensures.1.survives
