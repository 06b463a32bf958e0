use Rattle.std.proofs.Common.{◌∙◌}
use Rattle.contest_score.specs.SolveSteps.{time_in}
use Rattle.contest_score.proofs.SolveLemmas.{solves_of_loads}
use Rattle.contest_score.proofs.solve_list.contest_solves.Goals as goal

pub returns : goal.returns
returns c = λ x fixed sent released.
    (rw c.deref-2.ensures.value at c.in_ok-solves.ensures)
    ∙ solves_of_loads x c.args.fixed.now c.args.submissions.now c.args.releases.now c.deref.result.now (time_in c.in_ok-times.times) c.in_ok-order.order.items
    (c.deref.ensures.value ∙ c.in_ok-judged.ensures) c.in_ok-times.ensures c.in_ok-order.ensures.order fixed sent released
