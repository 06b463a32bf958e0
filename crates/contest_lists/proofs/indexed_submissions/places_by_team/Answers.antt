use Rattle.std.proofs.Common.{[], ◌∷◌, ◌++◌, ap, sym, ◌∙◌}
use Rattle.std.specs.Prelude.{◌==◌, if◌then◌else◌}
use Rattle.contest_lists.proofs.TeamRowLemmas.{places_more}
use Rattle.contest_lists.proofs.indexed_submissions.places_by_team.Goals as goal

pub loop-place-preserved : goal.loop-place-preserved
loop-place-preserved c = λ team.
    let place = c.loop-place.place in
    let row = c.index-rows-place.result in
    c.in_ok-note.ensures.ok team ∙ (ap (λ ps. ps ++ (if row.team == team then place ∷ [] else [])) (c.loop-place.invariant team)
    ∙ sym (places_more team c.args.rows.now place row c.loop-place-test.true c.index-rows-place.is))
