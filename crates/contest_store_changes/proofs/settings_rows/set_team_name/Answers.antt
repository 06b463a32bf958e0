use Rattle.std.proofs.Common.{refl}
use Rattle.contest_types.specs.declared.entry.Entry.TheVariants.{SetTeamName}
use Rattle.contest_store_tables.specs.Connected.{counts_of, shown_by}
use Rattle.contest_store_changes.proofs.AppendLemmas.{adds_nothing, unfit}
use Rattle.contest_store_changes.proofs.FittingNumbers.{no_such_team}
use Rattle.contest_store_changes.proofs.settings_rows.set_team_name.Goals as goal

pub returns : goal.returns
returns g c = c.change_row.ensures c.args.lists.now (SetTeamName c.args.team c.args.name.now) (refl, c.team_name_cells.ensures)

pub returns-then-not-fits : goal.returns-then-not-fits
returns-then-not-fits g c =
    adds_nothing (shown_by g.S.Store c.args.tables.now) (counts_of c.args.tables.now) c.args.lists.now (SetTeamName c.args.team c.args.name.now)
    (λ x sound. no_such_team x c.args.team c.args.name.now sound (λ fits. unfit c.if-not-fits.ensures fits))
