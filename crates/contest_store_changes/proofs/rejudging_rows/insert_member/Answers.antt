use Rattle.std.proofs.Common.{◌+◌, length}
use Rattle.contest_store_tables.specs.Connected.{shown_by}
use Rattle.contest_store_tables.specs.declared.table_name.TableName.TheVariants.{Members}
use Rattle.contest_store_changes.proofs.AppendLemmas.{inserts_if}
use Rattle.contest_store_changes.proofs.BoundRows.{member_unreal}
use Rattle.contest_store_changes.proofs.rejudging_rows.insert_member.Goals as goal

pub returns : goal.returns
returns g c =
    let lists = c.args.lists.now in
    let m = c.args.member.now in
    let place = c.args.place + 1 in
    inserts_if c.insert-2.result (shown_by g.S.Store c.args.tables.now) (shown_by g.S.Store c.insert-2.new.self) _ _ Members c.member_cells.result _
    (member_unreal lists.fixed.settings (length lists.rejudgings + 1) place m)
    (λ fits. rw (c.fixed.ensures, c.rejudgings-rejudging.ensures) at c.member_cells.ensures) c.insert-2.ensures
