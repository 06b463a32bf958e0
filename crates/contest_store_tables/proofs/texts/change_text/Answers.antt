use Rattle.contest_store_tables.proofs.TextMeanings.{version_changed, marks_changed, duration_changed, item_name_changed, digest_changed, rejudging_state_changed, member_state_changed, cell_changed}
use Rattle.contest_store_tables.proofs.texts.change_text.Goals as goal

pub returns-in-Version : goal.returns-in-Version
returns-in-Version c = rw c.in-Version.is version_changed

pub returns-in-Marks : goal.returns-in-Marks
returns-in-Marks c = rw c.in-Marks.is marks_changed

pub returns-in-Duration : goal.returns-in-Duration
returns-in-Duration c = rw c.in-Duration.is duration_changed

pub returns-in-ItemName : goal.returns-in-ItemName
returns-in-ItemName c = rw c.in-ItemName.is item_name_changed

pub returns-in-Digest : goal.returns-in-Digest
returns-in-Digest c = rw c.in-Digest.is digest_changed

pub returns-in-RejudgingState : goal.returns-in-RejudgingState
returns-in-RejudgingState c = rw c.in-RejudgingState.is rejudging_state_changed

pub returns-in-MemberState : goal.returns-in-MemberState
returns-in-MemberState c = rw c.in-MemberState.is member_state_changed

pub returns-in-Cell : goal.returns-in-Cell
returns-in-Cell c = rw c.in-Cell.is cell_changed
