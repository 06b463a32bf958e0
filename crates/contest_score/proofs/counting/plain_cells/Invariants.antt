use Rattle.std.proofs.Common.{◌≡◌, take}
use Rattle.contest_score.proofs.Tables.{table_of}
use Rattle.contest_score.proofs.counting.plain_cells.Given as goal

-- the table of the submissions so far
abbrev pub invariant-loop-submission : goal.invariant-loop-submission
invariant-loop-submission l = l.table ≡ table_of l.fn.audience l.settings l.marks l.fn.now (take l.submission-index l.submissions)
