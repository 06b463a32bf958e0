use Rattle.contest_types.specs.Loads.{loaded_submissions}
use Rattle.contest_view.specs.Reads.{submission_items}
use Rattle.contest_view.specs.Rows.{row_cmp, row_item}
use Rattle.contest_view.proofs.Listed.{listed_text}
use Rattle.contest_view.proofs.SubmissionLists.{submissions_are}
use Rattle.contest_view.proofs.submissions.submissions_text.Goals as goal

pub returns : goal.returns
returns c x shows =
    let a = c.args.seen.now.audience in
    let now = c.args.seen.now.now in
    listed_text (row_item x.fixed a) (row_cmp x.fixed.settings) (loaded_submissions x) (submission_items a now x) c.in_ok-text.text.items (rw (c.submissions-rows.ensures, shows.lists) at c.in_ok-text.ensures) (submissions_are a now x shows.valid)
