use Rattle.std.proofs.Common.{ap}
use Rattle.contest_types.specs.Setup.{Setup}
use Rattle.contest_feed_reader.proofs.SetupLemmas.{problem_fits}
use Rattle.contest_feed_reader.proofs.setup.add_problems.Goals as goal

pub add_problem-requires : goal.add_problem-requires
add_problem-requires c = problem_fits c.loop-row.settings c.args.rows.now c.loop-row.row-index c.row-item.result c.requires.different c.requires.labels c.requires.few c.loop-row-test.true c.row-item.is (ap (λ (s : Setup). s.problems) c.loop-row.invariant)
