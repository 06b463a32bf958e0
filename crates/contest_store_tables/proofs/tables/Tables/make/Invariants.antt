use Rattle.std.proofs.Common.{Ok}
use Rattle.contest_store_tables.specs.Connected.{shown_by, counts_of}
use Rattle.contest_store_tables.specs.Steps.{Step, HasFirst, HasCreated, MakesNone}
use Rattle.contest_store_tables.proofs.tables.Tables.make.Given as goal

abbrev pub invariant-loop-table : goal.invariant-loop-table
invariant-loop-table g l = Step {T = Unit {0}} (Ok tt) (shown_by g.S.Store l.fn.self) (shown_by g.S.Store l.self) (counts_of l.fn.self) (counts_of l.self) (HasFirst 0) (HasCreated l.table-index)
    (MakesNone (shown_by g.S.Store l.fn.self) (HasFirst 0))
