use Rattle.contest_store_rows.proofs.TableLaws.{state_is_one_cell, start_is_one_cell, thaw_is_one_cell, finalized_is_one_cell}
use Rattle.contest_store_rows.proofs.laws.changes_are_cells.Goals as goal

pub returns-clause-state : goal.returns-clause-state
returns-clause-state c = state_is_one_cell

pub returns-clause-start : goal.returns-clause-start
returns-clause-start c = start_is_one_cell

pub returns-clause-thaw : goal.returns-clause-thaw
returns-clause-thaw c = thaw_is_one_cell

pub returns-clause-finalized : goal.returns-clause-finalized
returns-clause-finalized c = finalized_is_one_cell
