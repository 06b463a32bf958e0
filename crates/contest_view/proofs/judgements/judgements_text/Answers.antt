use Rattle.std.proofs.Common.{refl}
use Rattle.contest_types.specs.Loads.{loaded_submissions}
use Rattle.contest_types.specs.State.{of_release}
use Rattle.contest_lists.specs.RowsOn.{last_row}
use Rattle.contest_objects.specs.Items.{IsListed}
use Rattle.contest_view.specs.Rows.{row_cmp}
use Rattle.contest_view.specs.Judgements.{judgement_items, judgement_row}
use Rattle.contest_view.proofs.JudgementLemmas.{judgements_are}
use Rattle.contest_view.proofs.Listed.{listed_text}
use Rattle.contest_view.proofs.judgements.judgements_text.Goals as goal

pub returns : goal.returns
returns c x shows =
    let last = last_row of_release x.releases in
    let listed : IsListed (judgement_row c.args.seen.now.audience c.args.seen.now.now x.fixed last) (row_cmp x.fixed.settings) (loaded_submissions x) c.in_ok-text.text.items =
    rw (c.submissions-rows.ensures, shows.lists) at c.in_ok-text.ensures in
    listed_text (judgement_row c.args.seen.now.audience c.args.seen.now.now x.fixed last) (row_cmp x.fixed.settings) (loaded_submissions x) (judgement_items c.args.seen.now.audience c.args.seen.now.now x) c.in_ok-text.text.items listed
    (judgements_are c.args.seen.now.audience c.args.seen.now.now x shows.valid last (λ team number. refl))
