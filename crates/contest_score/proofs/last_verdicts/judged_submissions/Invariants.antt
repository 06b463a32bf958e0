use Rattle.std.proofs.Common.{◌≡◌, map, take}
use Rattle.contest_score.specs.LastVerdicts.{judged_by, type_in}
use Rattle.contest_score.proofs.last_verdicts.judged_submissions.Given as goal

abbrev pub invariant-loop-submission : goal.invariant-loop-submission
invariant-loop-submission l = l.judged.items ≡ map (judged_by (type_in l.last)) (take l.submission-index l.submissions)
