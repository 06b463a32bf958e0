use Rattle.std.proofs.Common.{◌∙◌, ap, length, sym}
use Rattle.std.specs.Prelude.{slice_get}
use Rattle.contest_types.specs.State.{ContestState, submissions_of}
use Rattle.contest_postings.specs.OwnSubmissions.{file_at, keyed_row}
use Rattle.contest_postings.proofs.OwnLemmas.{so_far_is}
use Rattle.contest_postings.proofs.own_so_far.own_so_far.Goals as goal

pub returns : goal.returns
returns c = λ x valid are filed.
    let team = c.args.team in
    let rows = c.args.lists.now.submissions in
    let count = length c.places_of-count.result.now in
    let ends = c.submission_of.ensures ∙ ap (slice_get (submissions_of team rows)) c.saturating_sub.ensures in
    let file = filed ∙ ap (λ (y : ContestState). file_at x (keyed_row team c.args.key.now y.submissions)) (sym are) in
    (λ i. record { count = count; last = c.time_of.ensures i; standing = c.with_file.ensures i })
    ∙ so_far_is x team c.args.key.now rows c.args.file.now count _ _ valid (ap (λ (y : ContestState). y.submissions) are) file (ap length c.places_of-count.ensures.places) ends c.standing_under.ensures
