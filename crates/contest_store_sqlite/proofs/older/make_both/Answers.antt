use Rattle.contest_store_tables.specs.Connected.{shown_by}
use Rattle.contest_store_tables.specs.Steps.{FullLacking, HasLater}
use Rattle.contest_store_tables.specs.declared.later_table.LaterTable.TheVariants.{Cells}
use Rattle.contest_store_tables.proofs.StepLemmas.{refuses}
use Rattle.contest_store_sqlite.specs.Steps.{HasAll}
use Rattle.contest_store_sqlite.proofs.WholeTables.{both_made}
use Rattle.contest_store_sqlite.proofs.older.make_both.Goals as goal

pub returns-in-Ok : goal.returns-in-Ok
returns-in-Ok g c =
    both_made _ c.make_later-in-Ok.result (shown_by g.S.Store c.args.tables.now) (shown_by g.S.Store c.make_later.new.self) (shown_by g.S.Store c.make_later-in-Ok.new.self) _ _ _ c.in-Ok.ensures c.make_later-in-Ok.ensures

pub returns-in-Err : goal.returns-in-Err
returns-in-Err g c =
    refuses _ (shown_by g.S.Store c.args.tables.now) (shown_by g.S.Store c.make_later.new.self) _ _ (FullLacking Cells) (HasLater Cells) (HasAll Cells) _ c.in-Err.ensures
