use Rattle.std.proofs.Common.{◌≡◌, ◌++◌, map, take}
use Rattle.contest_score.specs.Awards.{first_to_solve, listed}
use Rattle.contest_score.proofs.first_solves.add_first_to_solve.Given as goal

-- the awards for the problems so far
abbrev pub invariant-loop-place : goal.invariant-loop-place
invariant-loop-place l = l.awards ≡ l.initial.awards ++ listed (map (first_to_solve l.settings l.rows l.solves) (take l.place-index l.place-items))
