use Rattle.contest_store_rows.proofs.ListLaws.{lists_read_back, lists_write_back}
use Rattle.contest_store_rows.proofs.laws.lists_are_their_rows.Goals as goal

pub returns-clause-read : goal.returns-clause-read
returns-clause-read g c = lists_read_back _

pub returns-clause-written : goal.returns-clause-written
returns-clause-written g c = lists_write_back _
