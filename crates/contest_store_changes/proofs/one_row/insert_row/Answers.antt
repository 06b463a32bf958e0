use Rattle.contest_store_tables.specs.Connected.{shown_by}
use Rattle.contest_store_changes.proofs.AppendLemmas.{adds_row}
use Rattle.contest_store_changes.proofs.one_row.insert_row.Goals as goal

pub returns : goal.returns
returns g c lists e is =
    adds_row c.insert.result (shown_by g.S.Store c.args.tables.now) (shown_by g.S.Store c.insert.new.self) _ _ lists e c.args.table c.args.row.now is c.insert.ensures
