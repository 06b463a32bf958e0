use Rattle.std.proofs.Common.{◌≡◌, ◌++◌, List, true, drop, map}
use Rattle.std.specs.Option.{option_map}
use Rattle.contest_types.specs.State.{ContestState, SubmissionRef, of_submission}
use Rattle.contest_types.specs.Valid.{is_valid}
use Rattle.contest_lists.specs.Lists.{loaded}
use Rattle.contest_rules.specs.Opening.{submissions_named}
use Rattle.contest_postings.proofs.named.named_submissions.Given as goal

-- those so far, and those that are left
abbrev pub invariant-loop-id : goal.invariant-loop-id
invariant-loop-id l =
    (x : ContestState) → is_valid x ≡ true → l.lists ≡ loaded x
    → submissions_named l.ids x.submissions
    ≡ option_map (λ (more : List SubmissionRef). map (λ s. of_submission s.now) l.named.items ++ more) (submissions_named (drop l.id-index l.ids) x.submissions)
