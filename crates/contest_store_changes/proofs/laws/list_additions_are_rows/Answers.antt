use Rattle.contest_store_changes.proofs.ListAdditions.{clarification_is_added, member_is_added, proposal_is_added, rejudging_is_added, release_is_added, submission_is_added}
use Rattle.contest_store_changes.proofs.laws.list_additions_are_rows.Goals as goal

pub returns-clause-submission : goal.returns-clause-submission
returns-clause-submission c = submission_is_added

pub returns-clause-proposal : goal.returns-clause-proposal
returns-clause-proposal c = proposal_is_added

pub returns-clause-release : goal.returns-clause-release
returns-clause-release c = release_is_added

pub returns-clause-clarification : goal.returns-clause-clarification
returns-clause-clarification c = clarification_is_added

pub returns-clause-rejudging : goal.returns-clause-rejudging
returns-clause-rejudging c = rejudging_is_added

pub returns-clause-member : goal.returns-clause-member
returns-clause-member c = member_is_added
