use Rattle.contest_store_rows.proofs.RowLaws.{proposals_read_back, proposals_write_back}
use Rattle.contest_store_rows.proofs.laws.proposals_are_their_rows.Goals as goal

pub returns-clause-read : goal.returns-clause-read
returns-clause-read c = proposals_read_back

pub returns-clause-written : goal.returns-clause-written
returns-clause-written c = proposals_write_back
