use Rattle.std.proofs.Common.{◌<◌, ◌+◌, ◌^◌, ◌∙◌, ap, arith, rules, take}
use Rattle.std.proofs.lemmas.List.{length-take}
use Rattle.contest_lists.specs.RowIndex.{noted_with, standing_in}
use Rattle.contest_lists.specs.RowsOn.{count_on, last_row}
use Rattle.contest_lists.proofs.RowIndexLemmas.{few_on, indexed_next, next_is}
use Rattle.contest_lists.proofs.indexed_rows.standings_of.Goals as goal

pub note-requires : goal.note-requires
note-requires g c =
    let team = c.submission.result.0 in
    let number = c.submission.result.1 in
    let so_far = take c.loop-place.place c.args.rows.now.items in
    let of = g.R.OnSubmission.of in
    let is = next_is so_far (standing_in c.loop-place.standings team number) (count_on of so_far team number) (last_row of so_far team number) (c.loop-place.invariant team number) in
    let few = few_on of so_far team number in
    let long = length-take c.loop-place.place c.args.rows.now.items in
    let fits : c.len-place-end.result + 1 < 2 ^ 64 = search rules in
    let within = c.loop-place-test.true in
    omega (arith, is, few, long, fits, within)

pub loop-place-preserved : goal.loop-place-preserved
loop-place-preserved g c =
    let row = c.index.result.now in
    indexed_next g.R.OnSubmission.of c.args.rows.now.items c.loop-place.place row (standing_in c.loop-place.standings) (standing_in c.note.new.standings) (omega (arith, c.loop-place-test.true, c.len-place-end.ensures)) c.index.ensures c.loop-place.invariant
    (λ team number. c.in_ok-note.ensures.ok team number ∙ ap (λ s. noted_with (standing_in c.loop-place.standings) s c.loop-place.place team number) c.submission.ensures)
