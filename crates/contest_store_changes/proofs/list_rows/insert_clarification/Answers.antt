use Rattle.std.proofs.Common.{refl}
use Rattle.contest_types.specs.declared.entry.Entry.TheVariants.{NewClarification}
use Rattle.contest_store_changes.proofs.AppendLemmas.{unfit}
use Rattle.contest_store_changes.proofs.FittingNumbers.{clarification_fits}
use Rattle.contest_store_changes.proofs.list_rows.insert_clarification.Goals as goal

pub returns : goal.returns
returns g c = c.insert_row-2.ensures c.args.lists.now (NewClarification c.args.clarification.now) (λ x sound held may. (refl, rw (c.fixed.ensures, c.clarifications-row.ensures) at c.clarification_cells.ensures))

pub returns-then-not-clarification_fits : goal.returns-then-not-clarification_fits
returns-then-not-clarification_fits g c = c.insert_row.ensures c.args.lists.now (NewClarification c.args.clarification.now) (λ x sound held may. absurd (unfit c.if-not-clarification_fits.ensures (clarification_fits x c.args.clarification.now sound may)))
