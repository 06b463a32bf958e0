use Rattle.std.proofs.Common.{◌≡◌, ◌∙◌, [], ◌∷◌, None, Some, ap, map}
use Rattle.std.proofs.lemmas.List.{map-append}
use Rattle.contest_types.specs.State.{ContestState, of_submission}
use Rattle.contest_rules.specs.Verdicts.{submission_named}
use Rattle.contest_postings.proofs.NamedSubmissionLemmas.{named_ref, none_left, one_more}
use Rattle.contest_postings.proofs.named.named_submissions.Goals as goal

pub returns-in-None : goal.returns-in-None
returns-in-None c = λ x valid are.
    let id = c.id-item.result in
    let missed : submission_named id x.submissions ≡ None = named_ref id x.submissions None (rw (c.as_bytes.ensures.value ∙ c.as_str.ensures) at (c.in-None.ensures x valid (ap (λ (y : ContestState). y.submissions) are))) in
    none_left x.submissions c.args.ids.now c.loop-id.id-index id _ c.loop-id-test.true c.id-item.is (c.loop-id.invariant x valid are) missed

pub loop-id-preserved : goal.loop-id-preserved
loop-id-preserved c = λ x valid are.
    let id = c.id-item.result in
    let s = c.in-Some.submission.now in
    let found : submission_named id x.submissions ≡ Some (of_submission s) = named_ref id x.submissions (Some s) (rw (c.as_bytes.ensures.value ∙ c.as_str.ensures) at (c.in-Some.ensures x valid (ap (λ (y : ContestState). y.submissions) are))) in
    one_more x.submissions c.args.ids.now c.loop-id.id-index id (of_submission s) (map (λ r. of_submission r.now) c.loop-id.named.items) _ c.loop-id-test.true c.id-item.is (c.loop-id.invariant x valid are) found
    (ap (map (λ r. of_submission r.now)) c.in_ok-push-in-Some.ensures.items ∙ map-append (λ r. of_submission r.now) c.loop-id.named.items (c.in-Some.submission ∷ []))
