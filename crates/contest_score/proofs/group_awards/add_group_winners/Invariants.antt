use Rattle.std.proofs.Common.{◌≡◌, ◌++◌, map, take}
use Rattle.contest_score.specs.Awards.{group_winner, listed}
use Rattle.contest_score.proofs.group_awards.add_group_winners.Given as goal

-- the awards of the groups so far
abbrev pub invariant-loop-place : goal.invariant-loop-place
invariant-loop-place l = l.awards ≡ l.initial.awards ++ listed (map (group_winner l.settings l.rows) (take l.place-index l.place-items))
