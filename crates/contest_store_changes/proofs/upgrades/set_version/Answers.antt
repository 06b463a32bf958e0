use Rattle.contest_store_tables.specs.Connected.{shown_by}
use Rattle.contest_store_changes.proofs.BoundRows.{bound_as, desk_unreal}
use Rattle.contest_store_changes.proofs.UpgradeLemmas.{version_set}
use Rattle.contest_store_changes.proofs.upgrades.set_version.Goals as goal

pub returns : goal.returns
returns g c =
    version_set c.change.result (shown_by g.S.Store c.args.tables.now) (shown_by g.S.Store c.change.new.self) _ _ _ (bound_as c.desk_cells.result _ desk_unreal c.desk_cells.ensures) c.change.ensures
