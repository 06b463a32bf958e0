use Rattle.contest_store_rows.proofs.ClarificationLaws.{clarifications_read_back, clarifications_write_back}
use Rattle.contest_store_rows.proofs.laws.clarifications_are_their_rows.Goals as goal

pub returns-clause-read : goal.returns-clause-read
returns-clause-read c = clarifications_read_back

pub returns-clause-written : goal.returns-clause-written
returns-clause-written c = clarifications_write_back
