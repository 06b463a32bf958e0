use Rattle.contest_store_tables.specs.Connected.{counts_of, shown_by}
use Rattle.contest_store_changes.proofs.ScoredEntries.{nothing_scored, on_none}
use Rattle.contest_store_changes.proofs.cell_rows.keep_cells.Goals as goal

pub returns-in_default : goal.returns-in_default
returns-in_default g c =
    let e = c.args.entry.now in
    nothing_scored (shown_by g.S.Store c.args.tables.now) (counts_of c.args.tables.now) c.args.lists.now e (on_none e c.in_default.not-NewSubmission c.in_default.not-NewRelease)
