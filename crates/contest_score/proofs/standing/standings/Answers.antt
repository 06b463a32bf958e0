use Rattle.contest_score.specs.declared.standing.Standing.{Standing}
use Rattle.contest_score.specs.Keys.{TellsTeam}
use Rattle.contest_types.proofs.Placed.{Placed-more, Placed-past}
use Rattle.contest_score.proofs.standing.standings.Goals as goal
use Rattle.contest_score.proofs.standing.standings.Goals.{then-is_shown+in_ok-standing_of+in_ok-push, else-is_shown}

pub loop-place-preserved : goal.loop-place-preserved
loop-place-preserved g c =
    let told = TellsTeam c.args.settings.now (g.C.Cells.cells c.args.cells.now) in
    let shown = g.S.Shown.is_shown c.args.shown.now in
    elim c.if-is_shown.branch [
      | then-is_shown+in_ok-standing_of+in_ok-push w ↦ (rw (w.standings-is, w.in_ok-push.ensures.items) (Placed-more (λ (k : Standing). k.place) told shown c.loop-place.place c.loop-place.standings.items _ c.loop-place.invariant (rw (← c.is_shown.ensures) w.if-is_shown.true) w.in_ok-standing_of.ensures.place w.in_ok-standing_of.ensures.told))
      | else-is_shown w ↦ rw w.standings-is (Placed-past (λ (k : Standing). k.place) told shown c.loop-place.place c.loop-place.standings.items c.loop-place.invariant (rw (← c.is_shown.ensures) w.if-is_shown.false))
    ]
