use Rattle.std.proofs.Common.{◌≡◌, map, take}
use Rattle.contest_score.proofs.standing.cells_of_team.Given as goal

abbrev pub invariant-loop-problem : goal.invariant-loop-problem
invariant-loop-problem g l = l.row.items ≡ map (g.C.Cells.cells l.cells l.team) (take l.problem-index l.order)
