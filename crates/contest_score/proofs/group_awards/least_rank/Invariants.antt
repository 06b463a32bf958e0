use Rattle.std.proofs.Common.{take}
use Rattle.contest_score.specs.Awards.{is_in_group}
use Rattle.contest_score.proofs.LeastRanks.{Least}
use Rattle.contest_score.proofs.group_awards.least_rank.Given as goal

-- the least rank so far
abbrev pub invariant-loop-row : goal.invariant-loop-row
invariant-loop-row l = Least (is_in_group l.settings l.group) (take l.row-index l.rows) l.least
