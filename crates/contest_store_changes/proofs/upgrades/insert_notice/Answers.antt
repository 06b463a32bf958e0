use Rattle.std.proofs.Common.{◌+◌}
use Rattle.contest_store_tables.specs.Connected.{shown_by}
use Rattle.contest_store_tables.specs.declared.table_name.TableName.TheVariants.{Notices}
use Rattle.contest_store_changes.proofs.AppendLemmas.{inserts_if}
use Rattle.contest_store_changes.proofs.BoundRows.{clarification_unreal}
use Rattle.contest_store_changes.proofs.upgrades.insert_notice.Goals as goal

pub returns : goal.returns
returns g c =
    inserts_if c.insert-2.result (shown_by g.S.Store c.args.tables.now) (shown_by g.S.Store c.insert-2.new.self) _ _ Notices c.clarification_cells.result _ (clarification_unreal c.args.settings.now (c.args.place + 1) c.args.clarification.now)
    (λ fits. c.clarification_cells.ensures) c.insert-2.ensures
