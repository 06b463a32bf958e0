use Rattle.contest_store_tables.specs.Connected.{shown_by}
use Rattle.contest_store_changes.proofs.AppendLemmas.{changes_row}
use Rattle.contest_store_changes.proofs.one_row.change_row.Goals as goal

pub returns : goal.returns
returns g c lists e is =
    changes_row c.change.result (shown_by g.S.Store c.args.tables.now) (shown_by g.S.Store c.change.new.self) _ _ lists e c.args.change c.args.given.now is c.change.ensures
