use Rattle.std.proofs.Common.{ap}
use Rattle.contest_types.specs.Setup.{Setup}
use Rattle.contest_feed_reader.proofs.SetupLemmas.{type_fits}
use Rattle.contest_feed_reader.proofs.setup.add_types.Goals as goal

pub add_type-requires : goal.add_type-requires
add_type-requires c = type_fits c.loop-row.settings c.args.rows.now c.loop-row.row-index c.row-item.result c.requires.different c.requires.few c.loop-row-test.true c.row-item.is (ap (λ (s : Setup). s.types) c.loop-row.invariant)
