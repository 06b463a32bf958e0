use Rattle.contest_store_rows.proofs.RowLaws.{submissions_read_back, submissions_write_back}
use Rattle.contest_store_rows.proofs.laws.submissions_are_their_rows.Goals as goal

pub returns-clause-read : goal.returns-clause-read
returns-clause-read c = submissions_read_back

pub returns-clause-written : goal.returns-clause-written
returns-clause-written c = submissions_write_back
