use Rattle.std.proofs.Common.{◌≡◌, ◌<◌, ◌+◌, ◌^◌, ◌∙◌, ap, arith, length, rules}
use Rattle.contest_lists.specs.RowIndex.{noted_with, standing_in}
use Rattle.contest_lists.specs.RowsOn.{count_on, last_row}
use Rattle.contest_lists.proofs.RowIndexLemmas.{few_on, indexed_more, next_is}
use Rattle.contest_lists.proofs.indexed_rows.IndexedRows.push.Goals as goal

pub note-requires : goal.note-requires
note-requires g c =
    let team = c.submission.result.0 in
    let number = c.submission.result.1 in
    let rows = c.self.inside.rows.items in
    let of = g.R.OnSubmission.of in
    let is = next_is rows (standing_in c.self.inside.standings team number) (count_on of rows team number) (last_row of rows team number) (c.self.invariant team number) in
    let few = few_on of rows team number in
    let count : c.len.result ≡ length rows = omega (arith, c.len.ensures, ap length c.reserve.ensures.items) in
    let fits : c.len.result + 2 < 2 ^ 64 = search rules in
    omega (arith, is, few, count, fits)

pub invariant_of-self-2 : goal.invariant_of-self-2
invariant_of-self-2 g c =
    let rows = c.self.inside.rows.items in
    let count : c.len.result ≡ length rows = omega (arith, c.len.ensures, ap length c.reserve.ensures.items) in
    rw (c.in-Ok.ensures.items, c.reserve.ensures.items)
    (indexed_more g.R.OnSubmission.of rows c.args.row (standing_in c.self.inside.standings) (standing_in c.note.new.standings) c.self.invariant
    (λ team number. c.in_ok-note.ensures.ok team number
    ∙ (ap (λ s. noted_with (standing_in c.self.inside.standings) s c.len.result team number) c.submission.ensures
    ∙ ap (λ place. noted_with (standing_in c.self.inside.standings) ((g.R.OnSubmission.of c.args.row).team, (g.R.OnSubmission.of c.args.row).number) place team number) count)))
