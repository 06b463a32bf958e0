use Rattle.std.proofs.Common.{◌≡◌, drop}
use Rattle.std.specs.Prelude.{fold}
use Rattle.contest_feed_reader.specs.References.{earlier, full_faults}
use Rattle.contest_feed_reader.proofs.first_fault.note_all.Given as goal

abbrev pub invariant-loop-row : goal.invariant-loop-row
invariant-loop-row g l = fold earlier l.first (full_faults 0 (drop l.row-index l.rows)) ≡ fold earlier l.fn.first (full_faults 0 l.rows)
