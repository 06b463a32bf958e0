use Rattle.std.proofs.Common.{take}
use Rattle.contest_lists.specs.RowIndex.{IsIndexed, standing_in}
use Rattle.contest_lists.proofs.indexed_rows.standings_of.Given as goal

-- as the rows so far stand
abbrev pub invariant-loop-place : goal.invariant-loop-place
invariant-loop-place g l = IsIndexed g.R.OnSubmission.of (standing_in l.standings) (take l.place l.rows.items)
