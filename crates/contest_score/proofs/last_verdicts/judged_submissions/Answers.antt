use Rattle.std.proofs.Common.{ap, map, ◌∙◌}
use Rattle.std.proofs.lemmas.List.{take_all}
use Rattle.contest_score.specs.LastVerdicts.{judged_by, last_type, type_in}
use Rattle.contest_score.proofs.ListsLemmas.{judged_same}
use Rattle.contest_score.proofs.last_verdicts.judged_submissions.Goals as goal

pub returns : goal.returns
returns c =
    c.loop-submission.invariant ∙ ap (map (judged_by (type_in c.in_ok-last.last))) (take_all c.loop-submission.submission-index c.args.submissions.now c.loop-submission-test.false)
    ∙ judged_same (type_in c.in_ok-last.last) (last_type c.args.releases.now) c.in_ok-last.ensures c.args.submissions.now
