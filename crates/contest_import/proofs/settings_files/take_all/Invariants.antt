use Rattle.std.proofs.Common.{◌≡◌, ◌≤◌, ◌+◌, ◌^◌, length, map}
use Rattle.serde_json.specs.View.{view}
use Rattle.contest_import.specs.RowAdditions.{after_records}
use Rattle.contest_import.specs.SettingsObjects.{object_row}
use Rattle.contest_import.proofs.settings_files.take_all.Given as goal

-- what was read so far and the objects to come give what all of them do
abbrev pub invariant-loop-object : goal.invariant-loop-object
invariant-loop-object l = record {
  same : after_records (object_row l.kind) l.additions l.number (map view l.rest) ≡ after_records (object_row l.kind) l.initial.additions 1 (map view l.objects);
  few : l.number + length l.rest ≤ 2 ^ 63;
}

abbrev pub decreases-loop-object : goal.decreases-loop-object
decreases-loop-object l = length l.rest
