use Rattle.std.proofs.Common.{◌≡◌, ◌≤◌, ◌+◌, ◌^◌, length}
use Rattle.contest_import.specs.CsvKinds.{record_row}
use Rattle.contest_import.specs.RowAdditions.{after_records}
use Rattle.contest_import.proofs.csv_files.take_all.Given as goal

-- what is read so far and the records to come give what all of them do
abbrev pub invariant-loop-n : goal.invariant-loop-n
invariant-loop-n l = record {
  same : after_records (record_row l.kind) l.additions l.n l.records ≡ after_records (record_row l.fn.kind) l.fn.additions 1 l.fn.records;
  few : l.n + length l.records ≤ 2 ^ 63 + 1;
}
