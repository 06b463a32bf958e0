use Rattle.std.proofs.Common.{◌≡◌, map, take}
use Rattle.contest_feed_reader.specs.FeedContests.{team_of}
use Rattle.contest_feed_reader.proofs.setup.add_teams.Given as goal

abbrev pub invariant-loop-row : goal.invariant-loop-row
invariant-loop-row l = l.settings ≡ record l.fn.settings { teams = map (team_of l.groups) (take l.row-index l.rows) }
