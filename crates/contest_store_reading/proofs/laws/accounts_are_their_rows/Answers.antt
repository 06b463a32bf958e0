use Rattle.contest_store_reading.proofs.AccountLaws.{accounts_read, accounts_written}
use Rattle.contest_store_reading.proofs.laws.accounts_are_their_rows.Goals as goal

pub returns-clause-read : goal.returns-clause-read
returns-clause-read c = accounts_read

pub returns-clause-written : goal.returns-clause-written
returns-clause-written c = accounts_written
