use Rattle.std.proofs.Common.{refl}
use Rattle.contest_types.proofs.Placed.{map_range_next}
use Rattle.contest_score.proofs.counting.empty_row.Goals as goal

pub loop-preserved : goal.loop-preserved
loop-preserved c = rw (c.in_ok-push.ensures.items, c.loop.invariant, c.new.ensures, map_range_next) refl
