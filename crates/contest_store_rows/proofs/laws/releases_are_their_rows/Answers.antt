use Rattle.contest_store_rows.proofs.RowLaws.{releases_read_back, releases_write_back}
use Rattle.contest_store_rows.proofs.laws.releases_are_their_rows.Goals as goal

pub returns-clause-read : goal.returns-clause-read
returns-clause-read c = releases_read_back

pub returns-clause-written : goal.returns-clause-written
returns-clause-written c = releases_write_back
