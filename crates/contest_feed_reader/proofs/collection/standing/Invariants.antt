use Rattle.std.proofs.Common.{◌≡◌, ◌++◌}
use Rattle.contest_feed_reader.specs.Slots.{standing}
use Rattle.contest_feed_reader.proofs.collection.standing.Given as goal

-- the rows so far, and those of the slots that are left
abbrev pub invariant-loop-slot : goal.invariant-loop-slot
invariant-loop-slot g l = l.rows.items ++ standing l.slot-iterator.rest.items ≡ standing l.fn.slots.items
