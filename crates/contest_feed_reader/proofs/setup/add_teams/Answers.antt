use Rattle.std.proofs.Common.{ap}
use Rattle.contest_types.specs.Setup.{Setup}
use Rattle.contest_feed_reader.proofs.SetupLemmas.{team_fits}
use Rattle.contest_feed_reader.proofs.setup.add_teams.Goals as goal

pub add_team-requires : goal.add_team-requires
add_team-requires c = team_fits c.loop-row.settings c.args.groups.now c.args.rows.now c.loop-row.row-index c.row-item.result c.requires.different c.requires.few c.loop-row-test.true c.row-item.is (ap (λ (s : Setup). s.teams) c.loop-row.invariant)
