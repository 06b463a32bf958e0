use Rattle.contest_score.proofs.last_verdicts.take_release.Goals as goal

pub returns : goal.returns
returns c = λ team number. c.in_ok-insert.ensures.updates.0 (team, number)
