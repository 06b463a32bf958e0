use Rattle.std.proofs.Common.{◌≡◌, filter}
use Rattle.std.specs.List.{flat_map, range_with_len}
use Rattle.contest_score.specs.Ranking.{is_public}
use Rattle.contest_score.specs.SolveSteps.{team_solves, time_in}
use Rattle.contest_score.proofs.solve_list.solves_in.Given as goal

-- the solves of the teams so far
abbrev pub invariant-loop-team : goal.invariant-loop-team
invariant-loop-team l = l.solves.items ≡ flat_map (team_solves (time_in l.times) l.order) (filter (is_public l.settings) (range_with_len 0 l.team))
