use Rattle.std.proofs.Common.{map}
use Rattle.contest_types.specs.declared.submission.Submission.{Submission}
use Rattle.contest_store_valid.specs.Keys.{read}
use Rattle.contest_store_valid.proofs.KeyLemmas.{keyed_more}
use Rattle.contest_store_valid.proofs.submissions.keys_of.Goals as goal

pub loop-submission-preserved : goal.loop-submission-preserved
loop-submission-preserved c =
    keyed_more (λ (s : Submission). s.team) (λ s. s.key) c.args.submissions.now c.loop-submission.submission-index c.submission-item.result (map read c.loop-submission.keys.items) (map read c.push_key.new.keys.items)
    c.loop-submission-test.true c.submission-item.is c.loop-submission.invariant c.in_ok-push_key.ensures
