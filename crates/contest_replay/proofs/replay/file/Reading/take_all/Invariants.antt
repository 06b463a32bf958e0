use Rattle.std.proofs.Common.{◌≡◌, ◌≤◌, ◌+◌, ◌^◌, length}
use Rattle.contest_replay.specs.ReplayFile.{result_from}
use Rattle.contest_replay.proofs.replay.file.Reading.take_all.Given as goal

-- what is read so far and the records to come give what all of them do
abbrev pub invariant-loop-n : goal.invariant-loop-n
invariant-loop-n l = record {
  same : result_from l.self.so_far l.self.fault l.self.named l.n l.records ≡ result_from l.fn.self.so_far l.fn.self.fault l.fn.self.named 1 l.fn.records;
  few : l.n + length l.records ≤ 2 ^ 63 + 1;
}
