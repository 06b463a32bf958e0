use Rattle.std.proofs.Common.{◌++◌, ap, sym, ◌∙◌}
use Rattle.contest_score.specs.Ranking.{is_public}
use Rattle.contest_score.specs.SolveSteps.{team_solves, time_in}
use Rattle.contest_score.proofs.SolveLemmas.{place_more, place_past}
use Rattle.contest_score.proofs.solve_list.solves_in.Goals as goal
use Rattle.contest_score.proofs.solve_list.solves_in.Goals.{then-is_public+in_ok-push_solves, else-is_public}

pub loop-team-preserved : goal.loop-team-preserved
loop-team-preserved c =
    let solves = team_solves (time_in c.args.times.now) c.args.order.now in
    let shown = is_public c.args.settings.now in
    elim c.if-is_public.branch [
      | then-is_public+in_ok-push_solves w ↦ (rw w.solves-is (w.in_ok-push_solves.ensures ∙ (ap (λ vs. vs ++ solves c.loop-team.team) c.loop-team.invariant ∙ sym (place_more solves shown c.loop-team.team (sym c.is_public.ensures ∙ w.if-is_public.true)))))
      | else-is_public w ↦ (rw w.solves-is (c.loop-team.invariant ∙ sym (place_past solves shown c.loop-team.team (sym c.is_public.ensures ∙ w.if-is_public.false))))
    ]
