use Rattle.std.proofs.Common.{Ok}
use Rattle.contest_store_tables.specs.Connected.{shown_by, counts_of}
use Rattle.contest_store_tables.specs.Steps.{Step, MakesNone}
use Rattle.contest_store_changes.specs.UpgradeSteps.{HasMoved, ShowsNoticeless}
use Rattle.contest_store_changes.proofs.upgrades.insert_notices.Given as goal

abbrev pub invariant-loop-place : goal.invariant-loop-place
invariant-loop-place g l = Step {T = Unit {0}} (Ok tt) (shown_by g.S.Store l.fn.tables) (shown_by g.S.Store l.tables) (counts_of l.fn.tables) (counts_of l.tables)
    (ShowsNoticeless l.fn.lists) (HasMoved l.fn.lists l.place) (MakesNone (shown_by g.S.Store l.fn.tables) (ShowsNoticeless l.fn.lists))
