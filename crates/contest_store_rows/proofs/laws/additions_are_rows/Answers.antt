use Rattle.contest_store_rows.proofs.TableLaws.{submission_is_one_row, proposal_is_one_row, release_is_one_row, clarification_is_one_row, rejudging_is_its_rows}
use Rattle.contest_store_rows.proofs.laws.additions_are_rows.Goals as goal

pub returns-clause-submission : goal.returns-clause-submission
returns-clause-submission c = submission_is_one_row

pub returns-clause-proposal : goal.returns-clause-proposal
returns-clause-proposal c = proposal_is_one_row

pub returns-clause-release : goal.returns-clause-release
returns-clause-release c = release_is_one_row

pub returns-clause-clarification : goal.returns-clause-clarification
returns-clause-clarification c = clarification_is_one_row

pub returns-clause-rejudging : goal.returns-clause-rejudging
returns-clause-rejudging c = rejudging_is_its_rows
