use Rattle.std.proofs.Common.{nat_eq}
use Rattle.std.specs.HashMap.{get}
use Rattle.std.specs.Map.{count_at}
use Rattle.contest_store_valid.proofs.TimeLemmas.{falls_here, next_in_time, none_falls}
use Rattle.contest_store_valid.proofs.times.times_never_fall.Goals as goal

pub returns-then-not-branch : goal.returns-then-not-branch
returns-then-not-branch c =
    falls_here c.args.submissions.now c.loop-submission.submission-index c.submission-item.result (count_at (get nat_eq c.loop-submission.last)) c.in_ok-is_in_time.field-0
    c.loop-submission-test.true c.submission-item.is c.loop-submission.invariant c.in_ok-is_in_time.ensures.in_time c.if-not-branch.true

pub loop-submission-preserved : goal.loop-submission-preserved
loop-submission-preserved c =
    next_in_time c.args.submissions.now c.loop-submission.submission-index c.submission-item.result (count_at (get nat_eq c.loop-submission.last)) (count_at (get nat_eq c.is_in_time.new.last)) c.in_ok-is_in_time.field-0
    c.loop-submission-test.true c.submission-item.is c.loop-submission.invariant c.in_ok-is_in_time.ensures.in_time c.if-not-branch.false c.in_ok-is_in_time.ensures.last

pub returns : goal.returns
returns c = none_falls c.args.submissions.now c.loop-submission.submission-index (count_at (get nat_eq c.loop-submission.last)) c.loop-submission-test.false c.loop-submission.invariant
