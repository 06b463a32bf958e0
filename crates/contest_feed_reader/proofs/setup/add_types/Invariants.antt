use Rattle.std.proofs.Common.{◌≡◌, map, take}
use Rattle.contest_feed_reader.specs.FeedContests.{type_of}
use Rattle.contest_feed_reader.proofs.setup.add_types.Given as goal

abbrev pub invariant-loop-row : goal.invariant-loop-row
invariant-loop-row l = l.settings ≡ record l.fn.settings { types = map type_of (take l.row-index l.rows) }
