use Rattle.std.proofs.Common.{◌≡◌, ◌∙◌, Some, sym}
use Rattle.std.specs.Prelude.{slice_get}
use Rattle.contest_types.specs.State.{submissions_of}
use Rattle.contest_rules.specs.Submitting.{has_key}
use Rattle.contest_lists.proofs.TeamRowLemmas.{next_own, taken_all}
use Rattle.contest_postings.proofs.OwnRows.{find_here, find_past}
use Rattle.contest_postings.proofs.own_so_far.row_with.Goals as goal

pub returns-then-has_key : goal.returns-then-has_key
returns-then-has_key c =
    let rows = c.args.lists.now.submissions in
    let k = c.loop-place.place-index in
    let own = submissions_of c.args.team rows in
    let row = c.index-submissions-place.result in
    let at : slice_get own k ≡ Some row = next_own c.args.team rows c.places_of-place-items.result.now k row c.places_of-place-items.ensures.places c.places_of-place-items.ensures.within c.loop-place-test.true (rw c.submissions-submissions.ensures at c.index-submissions-place.is) in
    sym (find_here (has_key c.args.key.now) own k row c.loop-place.invariant at (sym c.has_key.ensures ∙ c.if-has_key.true))

pub loop-place-preserved : goal.loop-place-preserved
loop-place-preserved c =
    let rows = c.args.lists.now.submissions in
    let k = c.loop-place.place-index in
    let own = submissions_of c.args.team rows in
    let row = c.index-submissions-place.result in
    let at : slice_get own k ≡ Some row = next_own c.args.team rows c.places_of-place-items.result.now k row c.places_of-place-items.ensures.places c.places_of-place-items.ensures.within c.loop-place-test.true (rw c.submissions-submissions.ensures at c.index-submissions-place.is) in
    find_past (has_key c.args.key.now) own k row c.loop-place.invariant at (sym c.has_key.ensures ∙ c.if-has_key.false)

pub returns : goal.returns
returns c =
    let all = taken_all c.args.team c.args.lists.now.submissions c.places_of-place-items.result.now c.loop-place.place-index c.places_of-place-items.ensures.places c.loop-place-test.false in
    sym (rw all at c.loop-place.invariant)
