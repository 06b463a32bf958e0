use Rattle.std.proofs.Common.{◌≡◌, map, take}
use Rattle.contest_types.specs.declared.submission.Submission.{Submission}
use Rattle.contest_store_valid.specs.Keys.{keyed, read}
use Rattle.contest_store_valid.proofs.submissions.keys_of.Given as goal

abbrev pub invariant-loop-submission : goal.invariant-loop-submission
invariant-loop-submission l = map read l.keys.items ≡ keyed (λ (s : Submission). s.team) (λ s. s.key) (take l.submission-index l.submissions)
