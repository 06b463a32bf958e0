use Rattle.contest_store_rows.proofs.RejudgingLaws.{rejudgings_read_back, rejudgings_write_back}
use Rattle.contest_store_rows.proofs.laws.rejudgings_are_their_rows.Goals as goal

pub returns-clause-read : goal.returns-clause-read
returns-clause-read c = rejudgings_read_back

pub returns-clause-written : goal.returns-clause-written
returns-clause-written c = rejudgings_write_back
