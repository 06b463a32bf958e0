use Rattle.std.proofs.Common.{◌∙◌, sym}
use Rattle.contest_types.specs.declared.entry.Entry.TheVariants.{NewRelease}
use Rattle.contest_types.proofs.PlaceLemmas.{and_left}
use Rattle.contest_store_tables.specs.Connected.{counts_of, shown_by}
use Rattle.contest_store_changes.proofs.AppendLemmas.{unfit}
use Rattle.contest_store_changes.proofs.FittingNumbers.{named_fits}
use Rattle.contest_store_changes.proofs.ScoredEntries.{has_problem, never_scored, problem_in, scored_release}
use Rattle.contest_store_changes.proofs.cell_rows.score_release.Goals as goal

pub returns-then-not-fits : goal.returns-then-not-fits
returns-then-not-fits g c =
    never_scored (shown_by g.S.Store c.args.tables.now) (counts_of c.args.tables.now) c.args.lists.now (NewRelease c.args.release.now)
    (λ x sound may held. unfit c.if-not-fits.ensures (named_fits x c.args.release.now.team c.args.release.now.number sound (and_left _ _ (and_left _ _ may))).0)

pub returns-in-Some : goal.returns-in-Some
returns-in-Some g c =
    let lists = c.args.lists.now in
    let v = c.args.release.now in
    scored_release c.write_cells.result (shown_by g.S.Store c.args.tables.now) (shown_by g.S.Store c.write_cells.new.tables) _ _ lists v c.in-Some.problem
    (λ k is. sym c.in-Some.is ∙ problem_in c.lists.result.now lists v.team v.number c.problem_of.result c.lists.ensures c.problem_of.ensures k is) c.write_cells.ensures

pub returns-in-None : goal.returns-in-None
returns-in-None g c =
    let lists = c.args.lists.now in
    let v = c.args.release.now in
    never_scored (shown_by g.S.Store c.args.tables.now) (counts_of c.args.tables.now) lists (NewRelease v)
    (λ x sound may held. has_problem x v lists sound may held (λ k is. sym c.in-None.is ∙ problem_in c.lists.result.now lists v.team v.number c.problem_of.result c.lists.ensures c.problem_of.ensures k is))
