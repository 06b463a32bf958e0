use Rattle.std.proofs.Common.{◌∙◌, ap}
use Rattle.contest_types.specs.State.{ContestState}
use Rattle.contest_rules.proofs.NamedLemmas.{named_is}
use Rattle.contest_postings.proofs.named.named_verdict.Goals as goal

pub returns : goal.returns
returns c = λ x valid are.
    let fixed = c.fixed.ensures ∙ ap (λ (y : ContestState). y.fixed) are in
    let named = rw c.as_bytes.ensures.bytes at (c.named_submission-submission.ensures x valid (ap (λ (y : ContestState). y.submissions) are)) in
    c.verdict_on.ensures ∙ named_is x c.args.wanted.now _ fixed named
