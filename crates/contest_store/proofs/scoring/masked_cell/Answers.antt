use Rattle.std.proofs.Common.{◌≡◌, ◌∙◌, ◌<◌, Some, arith, ap, length, refl}
use Rattle.std.specs.Prelude.{slice_get}
use Rattle.contest_types.specs.State.{submissions_of}
use Rattle.contest_types.specs.declared.sight.Mask.TheVariants.{Full, Held}
use Rattle.contest_lists.proofs.TeamRowLemmas.{as_many, next_own, taken_all}
use Rattle.contest_score.specs.Contest.{contest_cell}
use Rattle.contest_score.proofs.OwnCells.{own_cell_next, own_cell_room, own_cell_whole}
use Rattle.contest_store.proofs.scoring.masked_cell.Goals as goal

pub with_submission-cell-requires-clause-held : goal.with_submission-cell-requires-clause-held
with_submission-cell-requires-clause-held c =
    let rows = c.args.lists.now.submissions in
    let k = c.loop-place.place-index in
    let within : k < length (submissions_of c.args.team rows) = omega (arith, c.loop-place-test.true, ap length c.places_of-place-items.ensures.places, as_many c.args.team rows) in
    rw c.loop-place.invariant.0 (own_cell_room Held c.args.lists.now c.args.team c.args.problem k c.requires within)

pub with_submission-cell-requires-clause-full : goal.with_submission-cell-requires-clause-full
with_submission-cell-requires-clause-full c =
    let rows = c.args.lists.now.submissions in
    let k = c.loop-place.place-index in
    let within : k < length (submissions_of c.args.team rows) = omega (arith, c.loop-place-test.true, ap length c.places_of-place-items.ensures.places, as_many c.args.team rows) in
    rw c.loop-place.invariant.1 (own_cell_room Full c.args.lists.now c.args.team c.args.problem k c.requires within)

pub loop-place-preserved : goal.loop-place-preserved
loop-place-preserved c =
    let rows = c.args.lists.now.submissions in
    let k = c.loop-place.place-index in
    let own = submissions_of c.args.team rows in
    let row = c.index-submissions-place.result in
    let at : slice_get own k ≡ Some row = next_own c.args.team rows c.places_of-place-items.result.now k row c.places_of-place-items.ensures.places c.places_of-place-items.ensures.within c.loop-place-test.true (rw c.submissions-submissions.ensures at c.index-submissions-place.is) in (
      c.with_submission-cell.ensures.held ∙ (rw c.loop-place.invariant.0 (own_cell_next Held c.args.lists.now c.args.problem own k row at)),
      c.with_submission-cell.ensures.full ∙ (rw c.loop-place.invariant.1 (own_cell_next Full c.args.lists.now c.args.problem own k row at)),
    )

pub returns : goal.returns
returns c =
    let x = c.args.lists.now in
    let k = c.loop-place.place-index in
    let all = taken_all c.args.team x.submissions c.places_of-place-items.result.now k c.places_of-place-items.ensures.places c.loop-place-test.false in
    let held : c.loop-place.cell.held ≡ contest_cell Held x c.args.team c.args.problem = (rw all at c.loop-place.invariant.0) ∙ own_cell_whole Held x c.args.team c.args.problem in
    let full : c.loop-place.cell.full ≡ contest_cell Full x c.args.team c.args.problem = (rw all at c.loop-place.invariant.1) ∙ own_cell_whole Full x c.args.team c.args.problem in
    rw (← held, ← full) refl
