use Rattle.contest_score.specs.SolveSteps.{solve_at, time_in}
use Rattle.contest_score.proofs.SolveLemmas.{next_pushed}
use Rattle.contest_score.proofs.solve_list.push_solves.Goals as goal

pub loop-problem-preserved : goal.loop-problem-preserved
loop-problem-preserved c =
    next_pushed (solve_at (time_in c.args.times.now) c.args.team) c.args.order.now c.loop-problem.problem-index 0 c.args.solves.now.items c.loop-problem.solves.items c.push_where.new.solves.items c.solve_at.result
    c.loop-problem-test.true c.loop-problem.invariant c.solve_at.ensures c.in_ok-push_where.ensures
