use Rattle.std.proofs.Common.{◌≡◌, ◌≤◌, take}
use Rattle.std.specs.Prelude.{count_by}
use Rattle.contest_desk.specs.Imports.{is_of_record}
use Rattle.contest_desk.proofs.added_count.added_count.Given as goal

-- those of the entries so far
abbrev pub invariant-loop-place : goal.invariant-loop-place
invariant-loop-place l = record { is : l.count ≡ count_by is_of_record (take l.place l.entries); few : l.count ≤ l.place }
