use Rattle.contest_store_reading.proofs.SpellingLaws.{contests_read_back, contests_write_back, first_contests_read_back}
use Rattle.contest_store_reading.proofs.laws.contests_are_their_rows.Goals as goal

pub returns-clause-read : goal.returns-clause-read
returns-clause-read c = contests_read_back

pub returns-clause-written : goal.returns-clause-written
returns-clause-written c = contests_write_back

pub returns-clause-first : goal.returns-clause-first
returns-clause-first c = first_contests_read_back
