use Rattle.std.proofs.Common.{◌∙◌, ap}
use Rattle.contest_types.specs.State.{ContestState}
use Rattle.contest_rules.specs.Submitting.{submit}
use Rattle.contest_postings.proofs.submission.SubmittingPosting.decide.Goals as goal

pub returns : goal.returns
returns c = λ x valid are filed.
    let fixed = c.fixed.ensures ∙ ap (λ (y : ContestState). y.fixed) are in
    let own = c.own_so_far-own.ensures x valid are filed in
    c.decide_submission.ensures ∙ (λ i. submit (fixed i) c.args.now c.args.self.team (own i) c.args.self.wanted)
