use Rattle.contest_store_tables.specs.Connected.{shown_by}
use Rattle.contest_store_tables.proofs.StepLemmas.{refuses}
use Rattle.contest_store_changes.specs.UpgradeSteps.{HasUpgraded, ShowsFirst}
use Rattle.contest_store_changes.proofs.UpgradeLemmas.{HasMovedFirst, moved_first, upgraded}
use Rattle.contest_store_changes.proofs.upgrades.upgrade.Goals as goal

pub returns-in-Ok : goal.returns-in-Ok
returns-in-Ok g c =
    upgraded _ c.leave_first.result (shown_by g.S.Store c.args.tables.now) (shown_by g.S.Store c.insert_notices.new.tables) (shown_by g.S.Store c.leave_first.new.tables) _ _ _ c.args.lists.now c.in-Ok.ensures
    c.leave_first.ensures

pub returns-in-Err : goal.returns-in-Err
returns-in-Err g c =
    let lists = c.args.lists.now in
    refuses _ (shown_by g.S.Store c.args.tables.now) (shown_by g.S.Store c.insert_notices.new.tables) _ _ (ShowsFirst lists) (HasMovedFirst lists) (HasUpgraded lists) _
    (moved_first _ (shown_by g.S.Store c.args.tables.now) (shown_by g.S.Store c.insert_notices.new.tables) _ _ lists c.in-Err.ensures)
