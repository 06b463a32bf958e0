use Rattle.std.proofs.Common.{◌≡◌, ◌≤◌, ◌+◌, ◌^◌, length}
use Rattle.contest_types.specs.State.{ContestState}
use Rattle.contest_import_verdicts.specs.SoFar.{SoFar}
use Rattle.contest_import_verdicts.specs.VerdictFiles.{after_records}
use Rattle.contest_import_verdicts.proofs.reading.take_all.Given as goal

-- what is read so far and the records to come give what all of them do
abbrev pub invariant-loop-n : goal.invariant-loop-n
invariant-loop-n l = record {
  same : (x : ContestState) → SoFar x l.fn.lists l.fn.so_far.imported l.fn.so_far.verdicts
      → SoFar x l.fn.lists l.so_far.imported l.so_far.verdicts
      × (after_records x l.fn.now l.so_far.verdicts l.n l.records ≡ after_records x l.fn.now l.fn.so_far.verdicts 1 l.fn.records);
  few : l.n + length l.records ≤ 2 ^ 63 + 1;
}
