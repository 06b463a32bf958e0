use Rattle.contest_score.specs.declared.standing.Standing.{Standing}
use Rattle.contest_score.specs.Keys.{TellsTeam}
use Rattle.contest_types.proofs.Placed.{Placed}
use Rattle.contest_score.proofs.standing.standings.Given as goal

-- a standing for each shown team so far
abbrev pub invariant-loop-place : goal.invariant-loop-place
invariant-loop-place g l = Placed (λ (k : Standing). k.place) (TellsTeam l.settings (g.C.Cells.cells l.cells)) (g.S.Shown.is_shown l.shown) l.place l.standings.items
