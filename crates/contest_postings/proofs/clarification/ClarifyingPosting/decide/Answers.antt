use Rattle.std.proofs.Common.{◌∙◌, ap}
use Rattle.std.specs.Option.{option_and_then}
use Rattle.contest_types.specs.State.{ContestState}
use Rattle.contest_rules.specs.Clarifying.{clarification_on, clarify_on, heard_clarification}
use Rattle.contest_postings.proofs.clarification.ClarifyingPosting.decide.Goals as goal

pub returns : goal.returns
returns c = λ x valid are fits.
    let own = c.args.self in
    let fixed = c.fixed-fixed.ensures ∙ ap (λ (y : ContestState). y.fixed) are in
    let clarifications = c.clarifications.ensures ∙ ap (λ (y : ContestState). y.clarifications) are in
    let heard = c.heard_reply-heard.ensures fits ∙ ap (λ (y : ContestState). option_and_then (heard_clarification y.fixed own.sender y.clarifications) own.wanted.reply) are in
    let named = c.clarification_on-named.ensures ∙ (λ i. clarification_on (fixed i) own.sender (heard i) own.wanted) in
    c.decide_clarification.ensures ∙ (λ i. clarify_on (fixed i) (named i) c.args.now own.sender own.account (clarifications i) own.wanted)
