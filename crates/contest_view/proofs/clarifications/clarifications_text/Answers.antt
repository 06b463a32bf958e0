use Rattle.contest_view.specs.Clarifications.{clarification_items, heard_cmp, heard_row}
use Rattle.contest_view.proofs.ClarificationLists.{clarifications_are}
use Rattle.contest_view.proofs.Listed.{listed_text}
use Rattle.contest_view.proofs.clarifications.clarifications_text.Goals as goal

pub returns : goal.returns
returns c x shows =
    let a = c.args.seen.now.audience in
    listed_text (heard_row x.fixed a) heard_cmp x.clarifications (clarification_items a x) c.in_ok-text.text.items (rw (c.clarifications-rows.ensures, shows.lists) at c.in_ok-text.ensures) (clarifications_are a x shows.valid)
