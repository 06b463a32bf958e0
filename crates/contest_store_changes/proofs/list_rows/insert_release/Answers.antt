use Rattle.std.proofs.Common.{◌∙◌, ◌+◌, ◌<◌, ◌^◌, List, length, ap, refl, rules, subst, sym}
use Rattle.contest_types.specs.State.{ContestState}
use Rattle.contest_types.specs.declared.entry.Entry.TheVariants.{NewRelease}
use Rattle.contest_types.specs.declared.submission.Release.{Release}
use Rattle.contest_store_changes.proofs.AppendLemmas.{unfit}
use Rattle.contest_store_changes.proofs.FittingNumbers.{release_fits}
use Rattle.contest_store_changes.proofs.list_rows.insert_release.Goals as goal

pub returns : goal.returns
returns g c = c.insert_row-2.ensures c.args.lists.now (NewRelease c.args.release.now) (λ x sound held may. (refl, cc))

pub returns-then-not-release_fits : goal.returns-then-not-release_fits
returns-then-not-release_fits g c =
    let rows = c.releases-row.result.now in
    let room : length rows + 2 < 2 ^ 63 = search rules in
    c.insert_row.ensures c.args.lists.now (NewRelease c.args.release.now)
    (λ x sound held may. absurd (unfit c.if-not-release_fits.ensures (release_fits x c.args.release.now sound may
    (subst (λ (vs : List Release). length vs + 2 < 2 ^ 63) (c.releases-row.ensures ∙ ap (λ (l : ContestState). l.releases) (sym held)) room))))
