use Rattle.std.proofs.Common.{take}
use Rattle.contest_lists.specs.TeamRows.{IsByTeam}
use Rattle.contest_lists.proofs.indexed_submissions.places_by_team.Given as goal

abbrev pub invariant-loop-place : goal.invariant-loop-place
invariant-loop-place l = IsByTeam l.places (take l.place l.rows)
