use Rattle.contest_store_reading.specs.Spelling.{tables_of}
use Rattle.contest_store_tables.specs.Connected.{shown_by, counts_of}
use Rattle.contest_store_sqlite.proofs.RowsLoaded.{LoadsFirst}
use Rattle.contest_store_sqlite.proofs.reads.load_rows.Given as goal

abbrev pub invariant-loop-table : goal.invariant-loop-table
invariant-loop-table g l = LoadsFirst (shown_by g.S.Store l.fn.tables) (shown_by g.S.Store l.tables) (counts_of l.fn.tables) (counts_of l.tables) l.table-index (tables_of l.rows)
