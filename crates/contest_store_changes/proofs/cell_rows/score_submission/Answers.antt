use Rattle.contest_types.specs.declared.entry.Entry.TheVariants.{NewSubmission}
use Rattle.contest_store_tables.specs.Connected.{counts_of, shown_by}
use Rattle.contest_store_changes.proofs.AppendLemmas.{unfit}
use Rattle.contest_store_changes.proofs.FittingNumbers.{submission_fits}
use Rattle.contest_store_changes.proofs.ScoredEntries.{attempts_in, never_scored, scored_submission}
use Rattle.contest_store_changes.proofs.cell_rows.score_submission.Goals as goal

pub returns : goal.returns
returns g c =
    let lists = c.args.lists.now in
    let s = c.args.submission.now in
    scored_submission c.write_cells.result (shown_by g.S.Store c.args.tables.now) (shown_by g.S.Store c.write_cells.new.tables) _ _ lists s _
    (attempts_in c.lists.result.now lists s.team s.problem c.attempts_at-is_new.result c.lists.ensures c.attempts_at-is_new.ensures) c.write_cells.ensures

pub returns-then-not-fits : goal.returns-then-not-fits
returns-then-not-fits g c =
    never_scored (shown_by g.S.Store c.args.tables.now) (counts_of c.args.tables.now) c.args.lists.now (NewSubmission c.args.submission.now)
    (λ x sound may held. unfit c.if-not-fits.ensures (submission_fits x c.args.submission.now sound may).0)
