use Rattle.std.proofs.Common.{◌≡◌, ℕ, ◌<◌, length, get_or, ap, arith, ◌∙◌}
use Rattle.contest_score.specs.Awards.{first_solves, first_to_solve}
use Rattle.contest_score.proofs.AwardLists.{listed_more, place_within}
use Rattle.contest_score.proofs.FirstSolves.{firsts_at, many_firsts, problem_award}
use Rattle.contest_score.proofs.first_solves.add_first_to_solve.Goals as goal

pub index-requires : goal.index-requires
index-requires c =
    let within = place_within c.deref-place-items.result.now c.in_ok-order.order.items (length c.args.settings.now.problems) c.loop-place.place-index c.deref-place-items.ensures.value c.in_ok-order.ensures.there c.loop-place-test.true in
    omega (arith, within, ap length c.problems-problems.ensures.list, many_firsts c.args.solves.now (length c.problems-problems.result.now), ap length c.in_ok-firsts.ensures, c.in_ok-firsts.firsts.ok)

pub loop-place-preserved : goal.loop-place-preserved
loop-place-preserved c =
    let place : ℕ = get_or c.deref-place-items.result.now c.loop-place.place-index 0 in
    let within : place < length c.args.settings.now.problems = place_within c.deref-place-items.result.now c.in_ok-order.order.items (length c.args.settings.now.problems) c.loop-place.place-index c.deref-place-items.ensures.value c.in_ok-order.ensures.there c.loop-place-test.true in
    let firsts : c.as_slice-firsts.result.now ≡ first_solves place c.args.solves.now =
    c.as_slice-firsts.ensures ∙ (c.index.ensures ∙ (rw c.in_ok-firsts.ensures (firsts_at c.args.solves.now (length c.problems-problems.result.now) place c.index.result.now (rw c.problems-problems.ensures.list within)))) in
    let award = problem_award c.args.settings.now c.args.rows.now c.args.solves.now place c.index-problems-place.result c.as_slice-firsts.result.now c.in_ok-first_to_solve.field-0 within (rw c.problems-problems.ensures.list at c.index-problems-place.is) firsts c.in_ok-first_to_solve.ensures in
    c.in_ok-add.ensures ∙ listed_more (first_to_solve c.args.settings.now c.args.rows.now c.args.solves.now) c.deref-place-items.result.now c.loop-place.place-index 0 c.args.awards.now c.loop-place.awards c.in_ok-first_to_solve.field-0 c.loop-place-test.true c.loop-place.invariant award
