use Rattle.contest_store_reading.proofs.FixedLaws.{fixed_reads_back, fixed_writes_back}
use Rattle.contest_store_reading.proofs.laws.fixed_parts_are_their_rows.Goals as goal

pub returns-clause-read : goal.returns-clause-read
returns-clause-read c = fixed_reads_back

pub returns-clause-written : goal.returns-clause-written
returns-clause-written c = fixed_writes_back
