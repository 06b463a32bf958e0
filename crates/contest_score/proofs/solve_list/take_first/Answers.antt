use Rattle.std.proofs.Common.{sym, ◌∙◌}
use Rattle.contest_score.specs.SolveSteps.{time_in}
use Rattle.contest_score.proofs.SolveLemmas.{time_put}
use Rattle.contest_score.proofs.solve_list.take_first.Goals as goal

pub returns : goal.returns
returns c =
    time_put (time_in c.args.times.now) (time_in c.insert.new.self) c.args.submission.now (sym c.contains_key.ensures ∙ c.if-contains_key.false) (λ team problem. c.in_ok-insert.ensures.updates.0 (team, problem))
