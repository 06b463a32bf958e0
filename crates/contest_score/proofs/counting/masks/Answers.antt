use Rattle.std.proofs.Common.{refl}
use Rattle.contest_types.proofs.Placed.{map_range_next}
use Rattle.contest_score.proofs.counting.masks.Goals as goal

pub loop-team-preserved : goal.loop-team-preserved
loop-team-preserved c = rw (c.in_ok-push.ensures.items, c.loop-team.invariant, c.mask_for.ensures, map_range_next) refl
