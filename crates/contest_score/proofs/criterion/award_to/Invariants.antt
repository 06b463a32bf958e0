use Rattle.std.proofs.Common.{◌≡◌, take}
use Rattle.contest_score.proofs.AwardLists.{teams_of}
use Rattle.contest_score.proofs.criterion.award_to.Given as goal

-- the teams of the rows so far
abbrev pub invariant-loop-row : goal.invariant-loop-row
invariant-loop-row g l = l.teams ≡ teams_of (g.C.Criterion.is_met l.criterion) (take l.row-index l.rows)
