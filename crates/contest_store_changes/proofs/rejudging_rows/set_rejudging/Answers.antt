use Rattle.std.proofs.Common.{refl}
use Rattle.contest_types.specs.declared.entry.Entry.TheVariants.{SetRejudging}
use Rattle.contest_store_tables.specs.Connected.{counts_of, shown_by}
use Rattle.contest_store_changes.proofs.AppendLemmas.{adds_nothing, unfit}
use Rattle.contest_store_changes.proofs.FittingNumbers.{no_such_rejudging}
use Rattle.contest_store_changes.proofs.rejudging_rows.set_rejudging.Goals as goal

pub returns : goal.returns
returns g c = c.change_row.ensures c.args.lists.now (SetRejudging c.args.n c.args.state) (refl, c.state_cells.ensures)

pub returns-then-not-fits : goal.returns-then-not-fits
returns-then-not-fits g c =
    adds_nothing (shown_by g.S.Store c.args.tables.now) (counts_of c.args.tables.now) c.args.lists.now (SetRejudging c.args.n c.args.state)
    (λ x sound. no_such_rejudging x c.args.n c.args.state sound (λ fits. unfit c.if-not-fits.ensures fits))
