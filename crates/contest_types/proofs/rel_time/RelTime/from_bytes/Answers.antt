use Rattle.contest_types.proofs.RelTimeReading.{agrees}
use Rattle.contest_types.proofs.rel_time.RelTime.from_bytes.Goals as goal

pub returns-clause-value : goal.returns-clause-value
returns-clause-value c = agrees c.args.text.now c.time_shown.result c.time_shown.ensures.found c.time_shown.ensures.none
