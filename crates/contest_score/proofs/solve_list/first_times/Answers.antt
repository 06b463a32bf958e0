use Rattle.std.proofs.Common.{sym, ◌∙◌}
use Rattle.contest_score.specs.SolveSteps.{time_in}
use Rattle.contest_score.proofs.SolveLemmas.{next_time, same_time}
use Rattle.contest_score.proofs.solve_list.first_times.Goals as goal
use Rattle.contest_score.proofs.solve_list.first_times.Goals.{then-is_solving+in_ok-take_first, else-is_solving}

pub loop-submission-preserved : goal.loop-submission-preserved
loop-submission-preserved c =
    let s = c.args.fixed.now.settings in
    let marks = c.args.fixed.now.marks in
    let us = c.args.submissions.now in
    elim c.if-is_solving.branch [
      | then-is_solving+in_ok-take_first w ↦ (rw w.times-is (next_time s marks us c.loop-submission.submission-index c.submission-item.result (time_in c.loop-submission.times) (time_in w.take_first.new.times) c.loop-submission-test.true c.submission-item.is
          (rw c.judgement_types-types.ensures.list at (sym c.is_solving.ensures ∙ w.if-is_solving.true)) c.loop-submission.invariant w.in_ok-take_first.ensures))
      | else-is_solving w ↦ (rw w.times-is (same_time s marks us c.loop-submission.submission-index c.submission-item.result (time_in c.loop-submission.times) c.loop-submission-test.true c.submission-item.is
          (rw c.judgement_types-types.ensures.list at (sym c.is_solving.ensures ∙ w.if-is_solving.false)) c.loop-submission.invariant))
    ]
