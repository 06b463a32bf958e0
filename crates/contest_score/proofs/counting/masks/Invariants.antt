use Rattle.std.proofs.Common.{◌≡◌, map}
use Rattle.std.specs.List.{range_with_len}
use Rattle.contest_score.specs.MaskedCells.{mask_for}
use Rattle.contest_score.proofs.counting.masks.Given as goal

-- a mask for each team so far
abbrev pub invariant-loop-team : goal.invariant-loop-team
invariant-loop-team l = l.masks.items ≡ map (mask_for l.audience l.marks l.now) (range_with_len 0 l.team)
