use Rattle.std.proofs.Common.{◌+◌}
use Rattle.contest_store_tables.specs.Connected.{shown_by}
use Rattle.contest_store_tables.specs.Steps.{HasFirst, HasCreated, HasMade}
use Rattle.contest_store_tables.specs.declared.table_name.TableName.TheVariants.{Desk}
use Rattle.contest_store_tables.proofs.MakingLemmas.{at_index, next_made, first_made, all_made_hold}
use Rattle.contest_store_tables.proofs.StepLemmas.{no_step, leaves, refuses}
use Rattle.contest_store_tables.proofs.tables.Tables.make.Goals as goal

pub loop-table-init : goal.loop-table-init
loop-table-init g c = no_step tt (shown_by g.S.Store c.args.self.now) _ (HasFirst 0) (HasCreated 0) _ (λ now kept h. first_made (shown_by g.S.Store c.args.self.now) now kept h)

pub returns-in-Err : goal.returns-in-Err
returns-in-Err g c =
    let i = c.loop-table.table-index in
    refuses _ (shown_by g.S.Store c.args.self.now) (shown_by g.S.Store c.create.new.self) _ _ (HasFirst 0) (HasCreated (i + 1)) HasMade _
    (next_made (shown_by g.S.Store c.args.self.now) (shown_by g.S.Store c.loop-table.self) (shown_by g.S.Store c.create.new.self) _ _ _ i _ (at_index i Desk c.loop-table-test.true) c.loop-table.invariant _ c.in-Err.ensures)

pub loop-table-preserved : goal.loop-table-preserved
loop-table-preserved g c =
    let i = c.loop-table.table-index in
    next_made (shown_by g.S.Store c.args.self.now) (shown_by g.S.Store c.loop-table.self) (shown_by g.S.Store c.create.new.self) _ _ _ i _ (at_index i Desk c.loop-table-test.true) c.loop-table.invariant _ c.in-Ok.ensures

pub returns : goal.returns
returns g c =
    leaves _ _ _ _ _ (HasFirst 0) (HasCreated _) HasMade _ (λ now kept h. all_made_hold (shown_by g.S.Store c.loop-table.self) c.loop-table.table-index now kept c.loop-table-test.false h) c.loop-table.invariant
