use Rattle.std.proofs.Common.{◌≡◌, map, take}
use Rattle.contest_feed_reader.specs.FeedContests.{problem_of}
use Rattle.contest_feed_reader.proofs.setup.add_problems.Given as goal

abbrev pub invariant-loop-row : goal.invariant-loop-row
invariant-loop-row l = l.settings ≡ record l.fn.settings { problems = map problem_of (take l.row-index l.rows) }
