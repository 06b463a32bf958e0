use Rattle.std.proofs.Common.{◌≡◌, ◌∙◌, true, ap, map, refl, sym}
use Rattle.serde_json.specs.Written.{compact_text}
use Rattle.contest_types.specs.Judging.{open_proposals}
use Rattle.contest_types.specs.Loads.{loaded_submissions}
use Rattle.contest_types.specs.Masks.{is_jury}
use Rattle.contest_types.specs.State.{of_proposal, of_release}
use Rattle.contest_lists.specs.RowsOn.{last_row}
use Rattle.contest_objects.specs.Items.{IsListed}
use Rattle.contest_view.specs.Rows.{row_cmp}
use Rattle.contest_view.specs.Proposals.{proposal_row}
use Rattle.contest_view.proofs.Listed.{listed_text}
use Rattle.contest_view.proofs.ProposalLemmas.{proposals_are, proposals_served, proposed_item}
use Rattle.contest_view.proofs.proposals.proposals_text.Goals as goal

pub returns : goal.returns
returns c x shows =
    let last = last_row of_proposal x.proposals in
    let released = last_row of_release x.releases in
    let jury : is_jury c.args.seen.now.audience ≡ true = sym c.is_jury.ensures ∙ c.if-not-is_jury.false in
    let listed : IsListed (proposal_row x.fixed.settings last released) (row_cmp x.fixed.settings) (loaded_submissions x) c.in_ok-text.text.items =
    rw (c.submissions-rows.ensures, shows.lists) at c.in_ok-text.ensures in
    listed_text (proposal_row x.fixed.settings last released) (row_cmp x.fixed.settings) (loaded_submissions x) (map (proposed_item x.fixed.settings) (open_proposals c.args.seen.now.now x)) c.in_ok-text.text.items listed
    (proposals_are c.args.seen.now.now x shows.valid last released (λ team number. refl) (λ team number. refl))
    ∙ ap compact_text (proposals_served c.args.seen.now.audience c.args.seen.now.now x jury)
