use Rattle.contest_store_tables.specs.Clearing.{HasCleared}
use Rattle.contest_store_tables.specs.Connected.{shown_by}
use Rattle.contest_store_tables.specs.Steps.{Full}
use Rattle.contest_store_tables.specs.declared.table_name.TableName.TheVariants.{Clarifications}
use Rattle.contest_store_tables.proofs.StepLemmas.{refuses}
use Rattle.contest_store_changes.specs.UpgradeSteps.{HasLeft}
use Rattle.contest_store_changes.proofs.UpgradeLemmas.{left_first}
use Rattle.contest_store_changes.proofs.upgrades.leave_first.Goals as goal

pub returns-in-Ok : goal.returns-in-Ok
returns-in-Ok g c =
    left_first _ c.set_version.result (shown_by g.S.Store c.args.tables.now) (shown_by g.S.Store c.clear_clarifications.new.self) (shown_by g.S.Store c.set_version.new.tables) _ _ _ c.in-Ok.ensures c.set_version.ensures

pub returns-in-Err : goal.returns-in-Err
returns-in-Err g c =
    refuses _ (shown_by g.S.Store c.args.tables.now) (shown_by g.S.Store c.clear_clarifications.new.self) _ _ Full (HasCleared Clarifications) HasLeft _ c.in-Err.ensures
